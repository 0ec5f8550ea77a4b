-- Legal DVI: the checks in their order, each with what its refusal returns.
use Rattle.std.specs.Prelude.{ℕ, zero, suc, ◌+◌, ◌-◌, cond, ◌&&◌, List, length, take, Some, None, Ok, Err, Option, Result, ◌==◌, nat_le, slice_index}
use Rattle.std.specs.Result.{result_and}
use Rattle.shelf.specs.declared.refusals.Refusal.{Refusal}
use Rattle.shelf.specs.declared.refusals.Refusal.TheVariants.{DocumentLength, NotDocument, WrongUnits, BrokenEnding, BrokenPages, BrokenPostamble}
use Rattle.document.specs.declared.documents.Document.{Document}
use Rattle.document.specs.Bytes.{four, two}
use Rattle.document.specs.Pages.{past_comment, broken_pointer}
use Rattle.document.specs.Fonts.{first_unlawful}

abbrev pub sized : List ℕ → Result (Unit {0}) Refusal
sized bs = cond (nat_le 54 (length bs) && nat_le (length bs) 16777216) (Ok tt) (Err (DocumentLength (length bs)))

-- 247 2
abbrev pub started : List ℕ → Result (Unit {0}) Refusal
started bs = cond (slice_index bs 0 == 247) (cond (slice_index bs 1 == 2) (Ok tt) (Err (NotDocument 1))) (Err (NotDocument 0))

-- a unit in four bytes at a place
abbrev pub unit_at : List ℕ → ℕ → ℕ → Result (Unit {0}) Refusal
unit_at bs place unit = cond (four bs place == unit) (Ok tt) (Err (WrongUnits place))

-- num, den and mag in the preamble
abbrev pub units_before : List ℕ → Result (Unit {0}) Refusal
units_before bs =
    result_and (unit_at bs 2 25400000) (result_and (unit_at bs 6 473628672)
    (cond (nat_le 1 (four bs 10) && nat_le (four bs 10) 32768) (Ok tt) (Err (WrongUnits 10))))

-- the length without the 223s at the end of the first i bytes
unfoldable pub bare : List ℕ → ℕ → ℕ
bare bs zero = 0
bare bs (suc i) = cond (slice_index bs i == 223) (bare bs i) (suc i)

-- m is the length without the 223s, of which there are four or more; before them stand 249, q and 2.
-- At q, behind the comment, stands 248, and its 29 bytes end before the 249.
abbrev pub ended : List ℕ → ℕ → ℕ → Result (Unit {0}) Refusal
ended bs m q =
    cond (nat_le (m + 4) (length bs) && (nat_le 6 m && (slice_index bs (m - 1) == 2 && (slice_index bs (m - 6) == 249
    && (nat_le (past_comment bs) q && (nat_le (q + 29) (m - 6) && slice_index bs q == 248))))))
    (Ok tt) (Err (BrokenEnding (length bs)))

-- num, den and mag in the postamble at q, the same as in the preamble
abbrev pub units_behind : List ℕ → ℕ → Result (Unit {0}) Refusal
units_behind bs q =
    result_and (unit_at bs (q + 5) 25400000) (result_and (unit_at bs (q + 9) 473628672) (unit_at bs (q + 13) (four bs 10)))

-- what a legal document states, with the places of its 248 and 249
abbrev pub stated : List ℕ → ℕ → ℕ → Document
stated bs q end =
    record { mag = four bs 10; l = four bs (q + 17); u = four bs (q + 21); post = q; end = end; last = four bs (q + 1); pages = two bs (q + 27) }

-- refused with the place that was found, if one was
abbrev pub placed : (ℕ → Refusal) → Option ℕ → Result (Unit {0}) Refusal
placed refusal (Some p) = Err (refusal p)
placed refusal None = Ok tt

-- the first refusal, or else what the document states
abbrev pub judged_by : List ℕ → ℕ → ℕ → Result Document Refusal
judged_by bs m q =
    result_and (sized bs) (result_and (started bs) (result_and (units_before bs) (result_and (ended bs m q) (result_and (units_behind bs q)
    (result_and (placed BrokenPostamble (first_unlawful (take (m - 6) bs) (q + 29)))
    (result_and (placed BrokenPages (broken_pointer bs q)) (Ok (stated bs q (m - 6)))))))))

abbrev pub judged : List ℕ → Result Document Refusal
judged bs = judged_by bs (bare bs (length bs)) (four bs (bare bs (length bs) - 5))

unfoldable pub legal : List ℕ → Result Document Refusal
legal bs = judged bs
