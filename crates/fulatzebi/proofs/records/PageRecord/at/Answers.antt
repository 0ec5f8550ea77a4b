-- The ten counts, each as it was read.
use Rattle.std.proofs.Common.{rules, refl}
use Rattle.fulatzebi.proofs.Counts.{counted}
use Rattle.fulatzebi.proofs.records.PageRecord.at.Goals as goal

pub returns : goal.returns
returns c =
    rw (
      counted _ _ (search rules) c.count_at.ensures,
      counted _ _ (search rules) c.count_at-2.ensures,
      counted _ _ (search rules) c.count_at-3.ensures,
      counted _ _ (search rules) c.count_at-4.ensures,
      counted _ _ (search rules) c.count_at-5.ensures,
      counted _ _ (search rules) c.count_at-6.ensures,
      counted _ _ (search rules) c.count_at-7.ensures,
      counted _ _ (search rules) c.count_at-8.ensures,
      counted _ _ (search rules) c.count_at-9.ensures,
      counted _ _ (search rules) c.count_at-10.ensures,
    )
    refl
