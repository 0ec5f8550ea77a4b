-- Lengths count 1/65,536 point: sizes of 1 to 2^27 - 1, positions within 2^30 - 1 either way.
use Rattle.std.specs.Prelude.{ℕ, Bool, cond, ◌&&◌, ℤ, pos, negsuc, ◌+ℤ◌, Some, None, Option, int_le, nat_lt}

abbrev pub good_size : ℕ → Bool
good_size s = nat_lt 0 s && nat_lt s 134217728

abbrev pub in_range : ℤ → Bool
in_range z = int_le (negsuc 1073741822) z && int_le z (pos 1073741823)

-- a position moved by a length; none where it leaves the range
abbrev pub moved_to : ℤ → ℤ → Option ℤ
moved_to at by = cond (in_range (at +ℤ by)) (Some (at +ℤ by)) None
