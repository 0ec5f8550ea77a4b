use Rattle.std.proofs.Common.{◌≡◌, List, ◌∙◌, ap, Ok, Err, Some, Result, subst, arith}
use Rattle.std.proofs.lemmas.Result.{err_from_is_err_and}
use Rattle.copies.specs.Marks.{faces_of}
use Rattle.copies.specs.declared.pairs.Pair.{Pair}
use Rattle.document.specs.Legal.{legal}
use Rattle.shelf.specs.declared.refusals.Refusal.{Refusal}
use Rattle.writing.specs.declared.standings.Standing.{Standing}
use Rattle.writing.specs.Standings.{progress_of}
use Rattle.ledgers.specs.Steps.{Begun, opening_by, beginning}
use Rattle.runs.proofs.Steps.{run_by, opens}
use Rattle.runs.proofs.runs.Run.open.Goals as goal

pub returns-in_err-standing : goal.returns-in_err-standing
returns-in_err-standing g c =
    let p = err_from_is_err_and c.from_residual-in_err-standing.result c.from_residual-in_err-standing.ensures.1 in
    let m = g.S.Shelf.means c.args.shelf.now in
    let doc = c.args.document.now in
    let judged : legal doc ≡ Ok c.in_ok-stated.stated = grind arith in
    let was : c.write_front.result ≡ Err c.in_err-standing.field-0.0 = grind arith in
    rw (p.1, p.2)
    (subst (λ (r : Result Standing Refusal). ◌≡◌ {A = Begun} (record { run = run_by m doc c.args.out.now c.in_ok-stated.stated judged r; out = c.write_front.new.out }) (beginning m doc c.args.out.now)) was
    (opens m doc c.args.out.now c.in_ok-stated.stated judged c.write_front.result c.write_front.new.out (c.write_front.ensures (faces_of m))))

pub returns : goal.returns
returns g c =
    let m = g.S.Shelf.means c.args.shelf.now in
    let doc = c.args.document.now in
    let d = c.in_ok-stated.stated in
    let s = c.in_ok-standing.standing in
    let judged : legal doc ≡ Ok d = grind arith in
    let was : c.write_front.result ≡ Ok s = grind arith in
    ap (λ (ps : List Pair). record { run = Ok (record { means = m; opening = opening_by d; come = Some (progress_of s ps) }); out = c.write_front.new.out }) c.new.ensures
    ∙ subst (λ (r : Result Standing Refusal). ◌≡◌ {A = Begun} (record { run = run_by m doc c.args.out.now d judged r; out = c.write_front.new.out }) (beginning m doc c.args.out.now)) was
    (opens m doc c.args.out.now d judged c.write_front.result c.write_front.new.out (c.write_front.ensures (faces_of m)))
