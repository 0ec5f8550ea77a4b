-- Numbers below the limit are judged, and the walk for them stops where it has stopped.
use Rattle.std.proofs.Common.{◌≡◌, ◌-◌, ◌≤◌, Some}
use Rattle.document.specs.Windows.{wrong, stop_at}
use Rattle.document.proofs.windows.lawful_to.Given as goal

abbrev pub invariant-loop-n : goal.invariant-loop-n
invariant-loop-n l = record {
  front : l.lawful.front.now ≡ l.entries.front.now;
  at : l.lawful.at ≡ l.entries.at;
  room : l.lo ≤ 4299161600;
  stop : l.lawful.to ≡ stop_at (wrong l.entries.front.now (Some l.lo)) l.entries.front.now l.entries.at l.entries.to;
}

abbrev pub decreases-loop-n : goal.decreases-loop-n
decreases-loop-n l = 4299161600 - l.lo
