use Rattle.std.proofs.Common.{◌≡◌, ◌≤◌, map, length, take}
use Rattle.std.specs.List.{All}
use Rattle.bank.specs.Ranges.{Passes}
use Rattle.bank.specs.Timing.{timed_skill, timing_skill}
use Rattle.bank.proofs.parts.Timed.new.Given as goal

abbrev pub invariant-loop-timing : goal.invariant-loop-timing
invariant-loop-timing l = record {
  few : length l.table.items ≤ 64;
  passing : All (λ s. Passes s.take.ending) l.table.items;
  laid : map timed_skill l.table.items ≡ map timing_skill (take l.timing-index l.timings);
}
