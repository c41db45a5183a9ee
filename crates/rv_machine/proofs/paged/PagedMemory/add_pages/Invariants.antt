use Rattle.std.proofs.Common.{◌≡◌, ℕ, ◌-◌, ◌≤◌, [], ◌∷◌, max}
use Rattle.rv_machine.specs.Paged.{zeros_in, first_of, bytes_in}
use Rattle.rv_machine.proofs.paged.PagedMemory.add_pages.Given as goal

-- the range as far as it has pages
abbrev pub invariant-pages : goal.invariant-pages
invariant-pages l = record {
  bytes : (a : ℕ) → bytes_in l.pages.items a
      ≡ first_of (bytes_in l.fn.pages.items a) (zeros_in (record { begin = l.fn.range.begin; end = l.begin } ∷ []) a);
  from : l.fn.range.begin ≤ l.begin;
  to : l.begin ≤ max l.fn.range.begin l.fn.range.end;
}

abbrev pub decreases-pages : goal.decreases-pages
decreases-pages l = l.range.end - l.begin
