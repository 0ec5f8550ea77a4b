use Rattle.std.proofs.Common.{rules}
use Rattle.machine.proofs.Turning.{at-link}
use Rattle.vf.specs.Fonts.{font_of}
use Rattle.expansion.proofs.Packets.{from_first, no-first}
use Rattle.expansion.proofs.expanding.run_packet.Goals as goal

pub returns : goal.returns
returns g c = from_first _ (font_of c.args.vf.now) _ c.args.asked _ _ _ _ c.args.packet _ _ _ _ c.in-Ok.ensures c.front.ensures (search rules) c.run.ensures

pub returns-in-Err : goal.returns-in-Err
returns-in-Err g c =
    no-first _ (font_of c.args.vf.now) _ c.args.asked _ _ c.args.marks.now c.args.packet _ _ c.in-Err.ensures
    (at-link _ _ _ _ _ _ c.link.ensures (rw c.into.ensures at c.pass_on.ensures.fault) (rw c.into.ensures at c.pass_on.ensures.full))
