-- Changes that can be taken back: none, one, one after another.
use Rattle.std.proofs.Common.{◌≡◌, ℕ, zero, suc, List, [], ◌∷◌, ◌++◌, length, take, drop, Option, Some, slice_get}
use Rattle.std.proofs.Common.{slice_set, refl, sym, ap, ◌∙◌, ◌≤◌, append_assoc}
use Rattle.std.proofs.Math.Seq.{drop-append_seam}
use Rattle.std.proofs.lemmas.List.{drop-append-le, take-append-le}
use Rattle.intervals.specs.Intervals.{Bounds}
use Rattle.intervals.specs.Undoing.{rewound, CameFrom}
use Rattle.intervals.specs.Below.{Interval}
use Rattle.intervals.specs.declared.known.BoundChange.{BoundChange}
use Rattle.intervals.specs.declared.known.KnownBounds.{KnownBounds}

-- two rows of changes are taken back, the second first
pub rewound_append : (one other : List BoundChange) (bounds : Bounds)
    → rewound (one ++ other) bounds ≡ rewound one (rewound other bounds)
rewound_append [] other bounds = refl
rewound_append (c ∷ cs) other bounds = ap (λ b. slice_set b c.variable c.before) (rewound_append cs other bounds)

-- what was there is put back
pub put_back : (bounds : Bounds) (x : ℕ) (new before : Option Interval) → slice_get bounds x ≡ Some before
    → slice_set (slice_set bounds x new) x before ≡ bounds
put_back [] x new before h = cc
put_back (b ∷ bs) zero new before h = cc
put_back (b ∷ bs) (suc x) new before h = ap (λ cs. b ∷ cs) (put_back bs x new before h)

pub from_before : (a b c : KnownBounds) → CameFrom a b → CameFrom b c → CameFrom a c
from_before a b c p q = record {
  changes = p.changes ++ q.changes;
  kept = q.kept ∙ ap (λ cs. cs ++ q.changes) p.kept ∙ append_assoc a.changes.items p.changes q.changes;
  rewound = rewound_append p.changes q.changes c.bounds.items ∙ ap (rewound p.changes) q.rewound ∙ p.rewound;
}

-- taken back to a mark, all is as it was at the mark
pub bounds_at_mark : (a b : KnownBounds) → CameFrom a b
    → rewound (drop (length a.changes.items) b.changes.items) b.bounds.items ≡ a.bounds.items
bounds_at_mark a b p = ap (λ cs. rewound (drop (length a.changes.items) cs) b.bounds.items) p.kept
    ∙ ap (λ cs. rewound cs b.bounds.items) (drop-append_seam a.changes.items p.changes) ∙ p.rewound

-- the last change is taken back first
pub one_back : (mark : ℕ) (old rest : List BoundChange) (c : BoundChange) (bounds : Bounds) → old ≡ rest ++ c ∷ []
    → mark ≤ length rest
    → rewound (drop mark rest) (slice_set bounds c.variable c.before) ≡ rewound (drop mark old) bounds
one_back mark old rest c bounds is few =
    sym (ap (λ cs. rewound (drop mark cs) bounds) is ∙ ap (λ cs. rewound cs bounds) (drop-append-le mark rest (c ∷ []) few)
    ∙ rewound_append (drop mark rest) (c ∷ []) bounds)

pub front_kept : (mark : ℕ) (old rest : List BoundChange) (c : BoundChange) → old ≡ rest ++ c ∷ [] → mark ≤ length rest
    → take mark rest ≡ take mark old
front_kept mark old rest c is few = sym (ap (take mark) is ∙ take-append-le mark rest (c ∷ []) few)

-- what two steps came to, taken back to the mark before them
pub bounds_back : (a b c : KnownBounds) (mark : ℕ) → mark ≡ length a.changes.items → CameFrom a b → CameFrom b c
    → rewound (drop mark c.changes.items) c.bounds.items ≡ a.bounds.items
bounds_back a b c mark at one other = ap (λ n. rewound (drop n c.changes.items) c.bounds.items) at
    ∙ bounds_at_mark a c (from_before a b c one other)
