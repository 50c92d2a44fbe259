-- What a sitting knows of the node at a place.
use Rattle.std.specs.Prelude.{ℕ, ◌+◌, min, slice_index_or, slice_set}
use Rattle.sitting.specs.declared.memory.Memory.{Memory}
use Rattle.sitting.specs.declared.memory.Memory.TheVariants.{Nothing, Child, Results as Kept, Count}
use Rattle.sitting.specs.declared.memory.Results.{Results}
use Rattle.sitting.specs.declared.executive.Executive.{Executive}

-- the place so far behind another, at most the last of 16 bits
abbrev pub beyond : ℕ → ℕ → ℕ
beyond at by = min (at + by) 65535

-- the place behind the node and all below it
abbrev pub end_at : Executive → ℕ → ℕ
end_at s i = slice_index_or s.ends i 0

abbrev pub memory_at : Executive → ℕ → Memory
memory_at s i = slice_index_or s.memories i Nothing

abbrev pub with_memory : Executive → ℕ → Memory → Executive
with_memory s i m = record s { memories = slice_set s.memories i m }

abbrev pub no_results : Results
no_results = record { passed = 0; failed = 0 }

abbrev pub ahead_of : Memory → ℕ
ahead_of Nothing = 0
ahead_of (Child n) = n
ahead_of (Kept r) = 0
ahead_of (Count n) = 0

abbrev pub results_of : Memory → Results
results_of Nothing = no_results
results_of (Child n) = no_results
results_of (Kept r) = r
results_of (Count n) = no_results

abbrev pub count_of : Memory → ℕ
count_of Nothing = 0
count_of (Child n) = 0
count_of (Kept r) = 0
count_of (Count n) = n
