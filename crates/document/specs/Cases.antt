-- Worked documents: one of no page in 56 bytes, one of a page and a font, and what breaks them where.
use Rattle.std.specs.Prelude.{◌≡◌, ℕ, ◌-◌, List, [], ◌∷◌, ◌++◌, take, replicate, Some, None, Ok, Err, slice_set}
use Rattle.shelf.specs.declared.refusals.Refusal.TheVariants.{DocumentLength, NotDocument, WrongUnits, BrokenEnding, BrokenPages, BrokenPostamble}
use Rattle.document.specs.declared.documents.Document.{Document}
use Rattle.document.specs.Legal.{legal}
use Rattle.document.specs.Pages.{page_place}
use Rattle.document.specs.Fonts.{font_by}

-- num, den, and mag 1000
abbrev units : List ℕ
units = 1 ∷ 131 ∷ 146 ∷ 192 ∷ 28 ∷ 59 ∷ 0 ∷ 0 ∷ 0 ∷ 0 ∷ 3 ∷ 232 ∷ []

abbrev minus_one : List ℕ
minus_one = 255 ∷ 255 ∷ 255 ∷ 255 ∷ []

-- of 15 bytes, with no comment
abbrev preamble : List ℕ
preamble = 247 ∷ 2 ∷ (units ++ (0 ∷ []))

-- of 29 bytes: a pointer, units, l, u and s of 0, and t pages
abbrev postamble : List ℕ → ℕ → List ℕ
postamble p t = 248 ∷ (p ++ (units ++ (replicate 11 0 ++ (t ∷ []))))

-- with q and n 223s
abbrev ending : ℕ → ℕ → List ℕ
ending q n = 249 ∷ 0 ∷ 0 ∷ 0 ∷ q ∷ 2 ∷ replicate n 223

-- a document of no page, with these commands in its postamble
abbrev empty : List ℕ → List ℕ
empty commands = preamble ++ (postamble minus_one 0 ++ (commands ++ ending 15 6))

abbrev blank : List ℕ
blank = empty []

-- font number 7 is `b` at a size, in 17 bytes
abbrev font : ℕ → List ℕ
font size = 243 ∷ 7 ∷ 0 ∷ 0 ∷ 0 ∷ 9 ∷ 0 ∷ 0 ∷ 0 ∷ size ∷ 0 ∷ 0 ∷ 0 ∷ 5 ∷ 0 ∷ 1 ∷ 98 ∷ []

-- the same with its number in four bytes
abbrev long_font : List ℕ
long_font = 246 ∷ 0 ∷ 0 ∷ 0 ∷ 7 ∷ 0 ∷ 0 ∷ 0 ∷ 9 ∷ 0 ∷ 0 ∷ 0 ∷ 5 ∷ 0 ∷ 0 ∷ 0 ∷ 5 ∷ 0 ∷ 1 ∷ 98 ∷ []

-- a page at 15: 139, ten counts, a pointer, and commands
abbrev page : List ℕ → List ℕ
page commands = 139 ∷ (replicate 40 0 ++ (minus_one ++ commands))

-- a document of that page, with its 140, and a font
abbrev paged : List ℕ
paged = preamble ++ (page (140 ∷ []) ++ (postamble (0 ∷ 0 ∷ 0 ∷ 15 ∷ []) 1 ++ (font 5 ++ ending 61 4)))

-- one whose page has no command before the postamble at q
abbrev short : ℕ → List ℕ
short q = preamble ++ (take (q - 15) (page []) ++ (postamble (0 ∷ 0 ∷ 0 ∷ 15 ∷ []) 1 ++ ending q 4))

abbrev paged_as : Document
paged_as = record { mag = 1000; l = 0; u = 0; post = 61; end = 107; last = 15; pages = 1 }

abbrev pub WorkedDocuments : Type 0
WorkedDocuments =
    -- accepted
    ((legal blank ≡ Ok (record { mag = 1000; l = 0; u = 0; post = 15; end = 44; last = 4294967295; pages = 0 }))
    × (legal (empty (138 ∷ font 5)) ≡ Ok (record { mag = 1000; l = 0; u = 0; post = 15; end = 62; last = 4294967295; pages = 0 }))
    × (legal paged ≡ Ok paged_as)
    × (legal (short 60) ≡ Ok (record { mag = 1000; l = 0; u = 0; post = 60; end = 89; last = 15; pages = 1 }))
    × (page_place paged paged_as 0 ≡ None) × (page_place paged paged_as 1 ≡ Some 15) × (page_place paged paged_as 2 ≡ None)
    × (font_by paged paged_as 7 ≡ Some (record { number = 7; checksum = 9; size = 5; design = 5; name = 98 ∷ [] }))
    × (font_by paged paged_as 0 ≡ None))
    -- length and start
    × ((legal (take 53 blank) ≡ Err (DocumentLength 53)) × (legal (slice_set (take 53 blank) 0 0) ≡ Err (DocumentLength 53))
    × (legal (slice_set blank 0 246) ≡ Err (NotDocument 0)) × (legal (slice_set blank 1 202) ≡ Err (NotDocument 1)))
    -- units in front
    × ((legal (slice_set blank 5 0) ≡ Err (WrongUnits 2)) × (legal (slice_set blank 6 0) ≡ Err (WrongUnits 6))
    × (legal (slice_set blank 12 128) ≡ Err (WrongUnits 10)) × (legal (slice_set (slice_set blank 12 0) 13 0) ≡ Err (WrongUnits 10)))
    -- the ending
    × ((legal (take 55 paged) ≡ Err (BrokenEnding 55)) × (legal (slice_set blank 49 3) ≡ Err (BrokenEnding 56))
    × (legal (slice_set blank 48 16) ≡ Err (BrokenEnding 56)) × (legal (slice_set blank 44 248) ≡ Err (BrokenEnding 56))
    × (legal (slice_set blank 14 1) ≡ Err (BrokenEnding 56)) × (legal (slice_set blank 14 255) ≡ Err (BrokenEnding 56))
    × (legal (slice_set blank 52 0) ≡ Err (BrokenEnding 56)))
    -- units behind
    × ((legal (slice_set blank 20 0) ≡ Err (WrongUnits 20)) × (legal (slice_set blank 24 0) ≡ Err (WrongUnits 24)) × (legal (slice_set blank 31 233) ≡ Err (WrongUnits 28)))
    -- the postamble's commands
    × ((legal (empty (138 ∷ 137 ∷ [])) ≡ Err (BrokenPostamble 45)) × (legal (empty (138 ∷ 249 ∷ [])) ≡ Err (BrokenPostamble 45))
    × (legal (empty (138 ∷ (font 5 ++ long_font))) ≡ Err (BrokenPostamble 62)) × (legal (empty (font 0)) ≡ Err (BrokenPostamble 44))
    × (legal (empty (take 16 (font 5))) ≡ Err (BrokenPostamble 44)) × (legal (empty (slice_set (take 16 (font 5)) 15 0)) ≡ Err (BrokenPostamble 44))
    × (legal (slice_set (empty (font 0)) 16 0) ≡ Err (BrokenPostamble 44)))
    -- the chain of pages
    × ((legal (slice_set blank 16 0) ≡ Err (BrokenPages 16)) × (legal (slice_set blank 43 1) ≡ Err (BrokenPages 16))
    × (legal (slice_set paged 56 0) ≡ Err (BrokenPages 56)) × (legal (slice_set paged 15 138) ≡ Err (BrokenPages 62))
    × (legal (slice_set paged 89 2) ≡ Err (BrokenPages 56)) × (legal (slice_set paged 89 0) ≡ Err (BrokenPages 62))
    × (legal (short 59) ≡ Err (BrokenPages 60)))
