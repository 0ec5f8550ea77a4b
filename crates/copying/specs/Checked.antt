-- When a file says what its document does.
use Rattle.std.specs.Prelude.{◌≡◌, ℕ, ◌+◌, ◌<◌, Bool, true, false, List, codes, length, slice_index_or, [], Ok}
use Rattle.shelf.specs.declared.marks.Mark.{Mark}
use Rattle.shelf.specs.Alone.{faces_alone}
use Rattle.shelf.specs.Meaning.{Meaning}
use Rattle.shelf.specs.Outcomes.{ends, well}
use Rattle.document.specs.declared.documents.Document.{Document}
use Rattle.document.specs.Legal.{legal}
use Rattle.reading.specs.Reading.{counts_of, page_reading}
use Rattle.copying.specs.declared.checks.Same.{Same}
use Rattle.copying.specs.declared.checks.Same.TheVariants.{Yes, OtherMarks, OtherBytes}
use Rattle.copying.specs.Copied.{Copied}

abbrev pub is_yes : Same → Bool
is_yes Yes = true
is_yes OtherMarks = false
is_yes OtherBytes = false

abbrev pub same_words : Same → List ℕ
same_words Yes = codes "checked: the same marks and counts over the faces alone, the same bytes when copied again"
same_words OtherMarks = codes "checked: a page of the file has other marks or counts"
same_words OtherBytes = codes "checked: the file copied again is another"

-- each page of the file has the ten counts of the document's page, from one on
abbrev pub SameCounts : List ℕ → Document → ℕ → List ℕ → Document → Type 0
SameCounts document stated first file written = (k : ℕ) → k < written.pages → counts_of document stated (first + k) ≡ counts_of file written (k + 1)

-- the pages from one on are read in full, and have these marks
abbrev pub ReadsAs : Meaning → List ℕ → Document → ℕ → List (List Mark) → Type 0
ReadsAs m bytes stated first pages = (k : ℕ) → k < length pages → page_reading m bytes stated (first + k) ≡ Ok (ends (slice_index_or pages k []) (well tt))

-- the file is legal; its pages have the counts of the document's, and over the faces alone the marks that those have over the shelf; and copied again it comes out the same
pub record Checked (m : Meaning) (document : List ℕ) (stated : Document) (first : ℕ) (file : List ℕ) : Type 0 where
  pub written : Document
  pub is-legal : legal file ≡ Ok written
  pub counts : SameCounts document stated first file written
  pub marks : List (List Mark)
  pub count : length marks ≡ written.pages
  pub read : ReadsAs m document stated first marks
  pub read-again : ReadsAs (faces_alone m) file written 1 marks
  pub again : Copied (faces_alone m) file 1 written.pages file
