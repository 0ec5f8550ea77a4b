-- An accepted copy's output is the closed file of its sources.
use Rattle.fulatzebi.proofs.Filing.{filed}
use Rattle.fulatzebi.proofs.flattening.copy_over.Goals as goal

pub returns-in-Ok-Ok-clause-law : goal.returns-in-Ok-Ok-clause-law
returns-in-Ok-Ok-clause-law g c bytes n =
    filed (g.S.Shelf.means c.args.shelf.now) (g.met.S.Shelf.lawful c.args.shelf.now) c.args.order.opening.now c.args.order.documents.now c.args.order.sources.now c.args.order.marks c.args.links.now c.args.out.now
    (record { answer = c.copy_by.result; links = c.copy_by.new.links; out = c.copy_by.new.out }) bytes c.copy_by.ensures n
