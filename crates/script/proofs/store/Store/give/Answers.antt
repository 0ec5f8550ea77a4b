use Rattle.std.proofs.Common.{rules, refl}
use Rattle.script.proofs.Lists.{given}
use Rattle.script.proofs.store.Store.give.Goals as goal

pub returns : goal.returns
returns c = (c.args.bytes.items, refl, λ other. rw c.list_of-list.ensures.is (given c.args.self.now.lists _ _ (record { name = c.in_ok-name.name; bytes = c.args.bytes }) c.args.name.now other (search rules) c.in_ok-name.ensures.items (rw c.list_of-list.ensures.is at c.in_ok-push.ensures.items)))
