-- A table of the places of a document's pages.
use Rattle.std.specs.Prelude.{◌≡◌, ℕ, ◌+◌, ◌-◌, ◌<◌, List, length, slice_index}
use Rattle.document.specs.declared.documents.Document.{Document}
use Rattle.document.specs.Pages.{page_before}

-- page n + 1 stands at the n-th of these
abbrev pub Placed : List ℕ → Document → List ℕ → Type 0
Placed bs d ps = (n : ℕ) → n < d.pages → (n < length ps) × (slice_index ps n ≡ page_before bs (d.pages - (n + 1)) d.last)
