mod Digits
mod Pairs
mod Lists
