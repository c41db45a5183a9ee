-- The elements of an array, one after another.
use Rattle.std.proofs.Common.{◌≡◌, ◌≢◌, ℕ, zero, suc, ◌+◌, ◌-◌, ◌≤◌, List, ◌++◌, refl, ap, arith}
use Rattle.functions.specs.Below.{element_bytes, elements_code, Instr, Kind}
use Rattle.language.specs.declared.signature.Kind.TheVariants.{Boolean}

-- where some are left, the next of them, and those behind it
pub elements_more : (code : ℕ → List Instr) (bytes offset left : ℕ) → left ≢ 0
    → elements_code code bytes offset left ≡ code offset ++ elements_code code bytes (offset + bytes) (left - 1)
elements_more code bytes offset zero some = absurd (some refl)
elements_more code bytes offset (suc left) some =
    let same : left ≡ suc left - 1 = omega arith in
    ap (λ n. code offset ++ elements_code code bytes (offset + bytes) n) same

pub few_bytes : (kind : Kind) → element_bytes kind ≤ 4
few_bytes Boolean = omega arith
few_bytes kind = omega arith
