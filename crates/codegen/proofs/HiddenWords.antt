-- The words in the frame of the loops that are around: each next number and each bound.
use Rattle.std.proofs.Common.{◌≡◌, ℕ, ◌+◌, ◌<◌, ◌≤◌, ap, ◌∙◌, arith}
use Rattle.codegen.proofs.Logic.{base_of, Kept, number_same, Setting, with_number_above, Wrote, wrote_kept, layout_of}
use Rattle.codegen.proofs.Machine.{ByteMap, next_offset, number_at}
use Rattle.rv_machine.specs.Machine as machine

-- the words of the loops that are around are as they were
abbrev pub Hidden : Setting → ℕ → machine.State → machine.State → Type 0
Hidden z depth s t = (o : ℕ) → next_offset (layout_of z) 0 ≤ o → o < next_offset (layout_of z) depth
    → t.bytes (z.frame + o) ≡ s.bytes (z.frame + o)

pub hidden_then : (z : Setting) (depth : ℕ) (s t u : machine.State) → Hidden z depth s t → Hidden z depth t u
    → Hidden z depth s u
hidden_then z depth s t u one other o low high = other o low high ∙ one o low high

pub hidden_less : (z : Setting) (less depth : ℕ) (s t : machine.State) → less ≤ depth → Hidden z depth s t
    → Hidden z less s t
hidden_less z less depth s t h hidden o low high = hidden o low (omega (arith, high, h))

pub hidden_by : (z : Setting) (depth : ℕ) (s t : machine.State) → t.bytes ≡ s.bytes → Hidden z depth s t
hidden_by z depth s t same o low high = ap (λ (b : ByteMap). b (z.frame + o)) same

pub hidden_kept : (z : Setting) (depth : ℕ) (s t : machine.State) → depth ≤ z.depths → Kept z (base_of z) s t
    → Hidden z depth s t
hidden_kept z depth s t within kept o low high = kept o (omega (arith, high, within))

-- a number that is written below the loops' words
pub hidden_wrote : (z : Setting) (depth n o w : ℕ) (s t : machine.State) → o + n ≤ next_offset (layout_of z) 0
    → Wrote z n o w s t → Hidden z depth s t
hidden_wrote z depth n o w s t before wrote x low high =
    ap (λ (b : ByteMap). b (z.frame + x)) wrote.written
    ∙ with_number_above s.bytes n (z.frame + o) w (z.frame + x) (omega (arith, before, low))

-- or behind them
pub hidden_beyond : (z : Setting) (depth n o w : ℕ) (s t : machine.State)
    → next_offset (layout_of z) depth ≤ o → Wrote z n o w s t → Hidden z depth s t
hidden_beyond z depth n o w s t behind wrote x low high = wrote_kept z n o w s t wrote x (omega (arith, behind, high))

-- a loop's word is the number that it was
pub hidden_number : (z : Setting) (depth : ℕ) (s t : machine.State) → Hidden z depth s t → (o : ℕ)
    → next_offset (layout_of z) 0 ≤ o → o + 4 ≤ next_offset (layout_of z) depth
    → number_at t.bytes 4 (z.frame + o) ≡ number_at s.bytes 4 (z.frame + o)
hidden_number z depth s t hidden o low high =
    number_same z s t 4 o (λ b above below. hidden b (omega (arith, above, low)) (omega (arith, below, high)))
