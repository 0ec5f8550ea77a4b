-- The page of a number, as the caller is told of it.
use Rattle.std.specs.Prelude.{ℕ, List, Ok, Err, Result}
use Rattle.std.specs.Option.{option_map, ok_or}
use Rattle.shelf.specs.declared.refusals.Refusal.{Refusal}
use Rattle.shelf.specs.declared.refusals.Refusal.TheVariants.{NoPage}
use Rattle.document.specs.declared.documents.Document.{Document}
use Rattle.document.specs.Legal.{legal}
use Rattle.document.specs.Pages.{page_place}
use Rattle.fulatzebi.specs.declared.records.PageRecord.{PageRecord}
use Rattle.fulatzebi.specs.Records.{page_record}

-- by cases, since std has no word for a Result's `and_then`
abbrev pub page_by : List ℕ → ℕ → Result Document Refusal → Result PageRecord Refusal
page_by bs n (Err e) = Err e
page_by bs n (Ok d) = ok_or (option_map (page_record bs) (page_place bs d n)) NoPage

abbrev pub page_facts : List ℕ → ℕ → Result PageRecord Refusal
page_facts bs n = page_by bs n (legal bs)
