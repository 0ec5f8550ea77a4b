-- A call that fails a check, a code without a width, and one mark.
use Rattle.std.proofs.Common.{◌≡◌, Some, None, vec_items, sym, ap, ◌∙◌, subst, arith, w32, w64, SFits, rules}
use Rattle.std.proofs.lemmas.Int.{to_z-of_z}
use Rattle.std.proofs.lemmas.Result.{err_from_is_err_and}
use Rattle.shelf.specs.Answers.{Answered}
use Rattle.shelf.specs.declared.refusals.Cause.TheVariants.{NoCode}
use Rattle.shelf.specs.Served.{by-fault}
use Rattle.tfm.specs.Outlines.{outline_of}
use Rattle.tfm.specs.Widths.{width_of}
use Rattle.tfm.specs.Laws.{called-face, fails-here}
use Rattle.tfm.proofs.Names.{length-face_names}
use Rattle.tfm.proofs.serving.TfmShelfShelf.character.Goals as goal

pub returns-in_err-h : goal.returns-in_err-h
returns-in_err-h c =
    let a = c.args.asked in
    let fs = vec_items c.args.self.now.faces in
    let n = c.count.ensures.fonts ∙ length-face_names fs in
    let p = err_from_is_err_and c.from_residual.result c.from_residual.ensures.1 in
    rw (p.1, p.2) (by-fault _ _ _ c.in_err-h.field-0.0 (fails-here _ fs _ a.font a.size a.code a.h a.v _ n c.in_err-h.ensures))

pub returns-in_err-w : goal.returns-in_err-w
returns-in_err-w c =
    let a = c.args.asked in
    let fs = vec_items c.args.self.now.faces in
    let n = c.count.ensures.fonts ∙ length-face_names fs in
    let none : c.width.result ≡ None = grind arith in
    let w = sym none ∙ c.width.ensures ∙ ap (λ b. width_of b (outline_of c.index-face.result.now) a.size a.code) c.as_slice.ensures.value in
    let p = err_from_is_err_and c.from_residual-in_err-w.result c.from_residual-in_err-w.ensures.1 in
    let k : c.in_err-w.field-0.0 ≡ NoCode = grind arith in
    rw (p.1, p.2, k) (by-fault _ _ _ NoCode (called-face _ fs _ a.font a.size a.code a.h a.v _ c.index-face.result.now _ n c.in_ok-h.ensures (search rules) (search rules) w))

pub returns : goal.returns
returns c =
    let a = c.args.asked in
    let fs = vec_items c.args.self.now.faces in
    let n = c.count.ensures.fonts ∙ length-face_names fs in
    let some : c.width.result ≡ Some c.in_ok-w.w = grind arith in
    let w = sym some ∙ c.width.ensures ∙ ap (λ b. width_of b (outline_of c.index-face.result.now) a.size a.code) c.as_slice.ensures.value in
    let o = called-face _ fs _ a.font a.size a.code a.h a.v _ c.index-face.result.now _ n c.in_ok-h.ensures (search rules) (search rules) w in
    let f0 : SFits w32 c.in_ok-h.h = search rules in
    let f1 : SFits w32 c.in_ok-h.v = search rules in
    let fw : SFits w32 c.in_ok-w.w = search rules in
    let fd : SFits w64 c.from-2.result = search rules in
    let is : c.from-2.result ≡ c.in_ok-w.w = c.from-2.ensures ∙ to_z-of_z w32 c.in_ok-w.w fw in
    let m = simp to_z-of_z at (c.put_mark.ensures c.args.chain.now) in
    subst (λ x. Answered x c.args.chain.now c.args.chain.now c.args.marks.now c.put_mark.new.marks c.put_mark.result) (sym o) (rw is at m)
