-- The chain of pages: from the pointer in the postamble back, each page's pointer leads to the page before it.
use Rattle.std.specs.Prelude.{ℕ, zero, suc, ◌+◌, ◌-◌, Bool, cond, ◌&&◌, List, Some, None, Option, ◌==◌, nat_le, nat_lt, slice_index}
use Rattle.document.specs.declared.documents.Document.{Document}
use Rattle.document.specs.Bytes.{four, two, no_page}

-- the place after the preamble's comment
abbrev pub past_comment : List ℕ → ℕ
past_comment bs = 15 + slice_index bs 14

-- a pointer leads to a 139 behind the comment, with its 45 bytes before the postamble at q, and below `limit`
abbrev pub leads : List ℕ → ℕ → ℕ → ℕ → Bool
leads bs q limit a = nat_le (past_comment bs) a && (nat_le (a + 45) q && (nat_lt a limit && slice_index bs a == 139))

-- the place of the first pointer that fails, of t pages below `limit`, the first by the pointer at a place;
-- the pointer of the last is -1
unfoldable pub broken_from : List ℕ → ℕ → ℕ → ℕ → ℕ → Option ℕ
broken_from bs q zero limit place = cond (four bs place == no_page) None (Some place)
broken_from bs q (suc t) limit place =
    cond (leads bs q limit (four bs place)) (broken_from bs q t (four bs place) (four bs place + 41)) (Some place)

-- the same from the postamble at q, which has the pointer and how many pages there are
abbrev pub broken_pointer : List ℕ → ℕ → Option ℕ
broken_pointer bs q = broken_from bs q (two bs (q + 27)) q (q + 1)

-- the place of the page that comes k before the one at a place
unfoldable pub page_before : List ℕ → ℕ → ℕ → ℕ
page_before bs zero a = a
page_before bs (suc k) a = page_before bs k (four bs (a + 41))

-- the place of page n, of which the last is at `last`; none where there is no such page
unfoldable pub page_place : List ℕ → Document → ℕ → Option ℕ
page_place bs d n = cond (nat_le 1 n && nat_le n d.pages) (Some (page_before bs (d.pages - n) d.last)) None
