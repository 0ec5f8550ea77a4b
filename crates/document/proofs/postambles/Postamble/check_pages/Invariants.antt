-- The pointer that fails from here on is the one that fails from the postamble on.
use Rattle.std.proofs.Common.{◌≡◌, ◌-◌}
use Rattle.document.specs.Pages.{broken_from, broken_pointer}
use Rattle.document.proofs.postambles.Postamble.check_pages.Given as goal

abbrev pub invariant-loop-page : goal.invariant-loop-page
invariant-loop-page l = broken_from l.self.bytes.now l.self.post (l._page-end - l._page) l.limit l.place ≡ broken_pointer l.self.bytes.now l.self.post
