-- Each worked document by computation.
use Rattle.std.proofs.Common.{refl}
use Rattle.document.specs.Bytes.{four, two}
use Rattle.document.specs.Pages.{broken_from, page_before, page_place}
use Rattle.document.specs.Fonts.{defined_at, entry_at, first_of, unlawful, first_unlawful, font_from}
use Rattle.document.specs.Legal.{bare, legal}
use Rattle.document.proofs.cases.legal_cases.Goals as goal

pub returns : goal.returns
unfolding four two broken_from page_before page_place defined_at entry_at first_of unlawful first_unlawful font_from bare legal
returns c = (
  (refl, refl, refl, refl, refl, refl, refl, refl, refl),
  (refl, refl, refl, refl),
  (refl, refl, refl, refl),
  (refl, refl, refl, refl, refl, refl, refl),
  (refl, refl, refl),
  (refl, refl, refl, refl, refl, refl, refl),
  (refl, refl, refl, refl, refl, refl, refl),
)
