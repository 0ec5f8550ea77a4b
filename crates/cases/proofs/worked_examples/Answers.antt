-- Each worked example by computation.
use Rattle.std.proofs.Common.{refl}
use Rattle.numbers.specs.FixWords.{halvings, scaled}
use Rattle.commands.specs.Commands.{command_at}
use Rattle.shelf.specs.Answers.{answer}
use Rattle.shelf.specs.Meaning.{called}
use Rattle.shelf.specs.Names.{found_in}
use Rattle.machine.specs.Runs.{turned, run}
use Rattle.machine.specs.Steps.{exec}
use Rattle.vf.specs.Files.{walk, vf_of}
use Rattle.expansion.specs.Expanding.{expanded}
use Rattle.rank.specs.Adding.{added_all}
use Rattle.document.specs.Bytes.{four, two}
use Rattle.document.specs.Fonts.{defined_at, entry_at, first_of, unlawful, first_unlawful, font_from}
use Rattle.document.specs.Legal.{bare, legal}
use Rattle.document.specs.Pages.{broken_from, page_before, page_place}
use Rattle.reading.specs.Reading.{page_outcome}
use Rattle.copies.specs.Files.{front_bytes, fonts_bytes, post_bytes, end_bytes, closing_bytes, progress}
use Rattle.copies.specs.Marks.{move_bytes, define_bytes, mark_bytes, pen_after, marks_bytes, pen_after_all}
use Rattle.copies.specs.Pages.{page_bytes, with_page}
use Rattle.copies.specs.Pairs.{pair_by}
use Rattle.ledgers.specs.Ledgers.{ledger, rulings}
use Rattle.cases.proofs.worked_examples.Goals as goal

pub returns : goal.returns
unfolding halvings scaled command_at answer called found_in turned run exec walk vf_of expanded added_all four two defined_at entry_at first_of unlawful first_unlawful font_from bare legal broken_from page_before page_place page_outcome front_bytes fonts_bytes post_bytes end_bytes closing_bytes progress move_bytes define_bytes mark_bytes pen_after marks_bytes pen_after_all page_bytes with_page pair_by ledger rulings
returns c = (
  (refl, refl, refl, refl, refl, refl),
  (refl, refl, refl, refl),
  (refl, refl),
  (refl, refl, refl, refl, refl, refl),
  (refl, refl, refl, refl, refl),
  (refl, refl, refl, refl, refl, refl, refl, refl, refl, refl, refl),
)
