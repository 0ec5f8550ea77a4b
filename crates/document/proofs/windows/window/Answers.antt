-- One command noted, a number used again, and the end.
use Rattle.std.proofs.Common.{[], false}
use Rattle.std.proofs.lemmas.List.{length-replicate}
use Rattle.document.proofs.Walks.{walk_start}
use Rattle.document.proofs.Notes.{no_numbers, onward, stopped, through}
use Rattle.document.proofs.windows.window.Goals as goal

pub loop-at-init : goal.loop-at-init
loop-at-init g c = record { ns = []; walk = walk_start _ _ _ c.into_iter-at-iterator.ensures.into_iter_gives; full = length-replicate _ false; table = no_numbers _ _ }

pub returns-then-note : goal.returns-then-note
returns-then-note g c = stopped _ _ _ _ _ _ c.loop-at.invariant _ c.in-Some.ensures.steps _ c.number_of.ensures.value _ c.if-note.ensures.noted

pub loop-at-preserved : goal.loop-at-preserved
loop-at-preserved g c = onward _ _ _ _ _ _ c.loop-at.invariant _ c.in-Some.ensures.steps _ c.number_of.ensures.value _ c.if-note.ensures.long c.if-note.ensures.noted

pub returns : goal.returns
returns g c = through _ _ _ _ _ c.loop-at.invariant c.in-None.ensures.steps
