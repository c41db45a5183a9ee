-- Numbers of some bytes: what is unknown of them goes by what is of the bytes.
use Rattle.std.specs.Prelude.{nat_eq, is_some, ◌&&◌}
use Rattle.std.proofs.Common.{◌≡◌, ℕ, zero, suc, ◌+◌, ◌-◌, ◌*◌, ◌/◌, ◌%◌, ◌^◌, ◌<◌, ◌≤◌, Bool, true, false, cond, Option}
use Rattle.std.proofs.Common.{Some, None, refl, sym, subst, ap, ◌∙◌, inl, inr, arith}
use Rattle.std.proofs.Math.Nat.{pow-suc}
use Rattle.std.proofs.lemmas.Bool.{cases_lt}
use Rattle.std.proofs.lemmas.Nat.{mod_below}
use Rattle.std.proofs.lemmas.Option.{same_Some}
use Rattle.std.specs.Int.{bit_at}
use Rattle.std.proofs.lemmas.Nat.Bits.{bit_at_cat_high, bit_at_cat_low}
use Rattle.rv_machine.specs.declared.memory.Size.{Size}
use Rattle.rv_machine.specs.declared.memory.Size.TheVariants.{Byte, Half, Word}
use Rattle.certified_runs.specs.Below.{byte_count, ByteMap, joined, number_at, with_number}
use Rattle.certified_runs.specs.Bits.{Agree}
use Rattle.certified_runs.specs.Known.{AreBytes, byte_unknown, number_unknown}
use Rattle.certified_runs.proofs.Agreeing.{agree_itself}
use Rattle.certified_runs.proofs.Rows.{all_agree}
use Rattle.certified_runs.proofs.ShiftedBits.{low_agrees, moved_agrees}

is_some-joined : (o p : Option ℕ) → is_some (joined o p) ≡ (is_some o && is_some p)
is_some-joined (Some a) (Some b) = refl
is_some-joined (Some a) None = refl
is_some-joined None p = refl

-- where the same addresses are data, numbers are at the same addresses
pub number_extent : (old new : ByteMap) → ((a : ℕ) → is_some (new a) ≡ is_some (old a)) → (n a : ℕ)
    → is_some (number_at new n a) ≡ is_some (number_at old n a)
unfolding number_at
number_extent old new same zero a = refl
number_extent old new same (suc n) a = simp (is_some-joined, same a, number_extent old new same n (a + 1))

-- Bytes make numbers of their length.

joined_fits : (o p : Option ℕ) (m v : ℕ) → joined o p ≡ Some v → ((b : ℕ) → o ≡ Some b → b < 256)
    → ((w : ℕ) → p ≡ Some w → w < m) → v < m * 256
joined_fits (Some b) (Some w) m v is byte rest =
    omega (arith, same_Some (b + 256 * w) v is, byte b refl, rest w refl)
joined_fits (Some b) None m v is byte rest = cc
joined_fits None p m v is byte rest = cc

number_fits : (bytes : ByteMap) → AreBytes bytes → (n a v : ℕ) → number_at bytes n a ≡ Some v → v < 256 ^ n
unfolding number_at
number_fits bytes are zero a v is = omega (arith, same_Some 0 v is)
number_fits bytes are (suc n) a v is =
    subst (λ m. v < m) (sym (pow-suc 256 n))
    (joined_fits (bytes a) (number_at bytes n (a + 1)) (256 ^ n) v is (are a) (number_fits bytes are n (a + 1)))

pub word_fits : (bytes : ByteMap) → AreBytes bytes → (size : Size) (a v : ℕ)
    → number_at bytes (byte_count size) a ≡ Some v → v < 2 ^ 32
word_fits bytes are Byte a v is = omega (arith, number_fits bytes are 1 a v is)
word_fits bytes are Half a v is = omega (arith, number_fits bytes are 2 a v is)
word_fits bytes are Word a v is = number_fits bytes are 4 a v is

-- Bytes that agree make numbers that do.

abbrev pub BytesAgree : ByteMap → ByteMap → ByteMap → Type 0
BytesAgree marks old new = (a b c : ℕ) → old a ≡ Some b → new a ≡ Some c → Agree (byte_unknown (marks a)) b c

cat_agrees : {m a b p q r : ℕ} → m < 256 → a < 256 → b < 256 → Agree m a b → Agree p q r
    → Agree (m + 256 * p) (a + 256 * q) (b + 256 * r)
cat_agrees {m} {a} {b} {p} {q} {r} m-fits a-fits b-fits low high = record {
  bits = λ i none. elim (cases_lt i 8) [
    | inl within ↦ low_of b r i within ∙ low.bits i (sym (low_of m p i within) ∙ none) ∙ sym (low_of a q i within)
    | inr from ↦
        high_of b r i b-fits from ∙ high.bits (i - 8) (sym (high_of m p i m-fits from) ∙ none)
        ∙ sym (high_of a q i a-fits from)
  ];
}
  where
    turned : (x y : ℕ) → x + 256 * y ≡ y * 2 ^ 8 + x
    turned x y = omega arith

    low_of : (x y i : ℕ) → i < 8 → bit_at (x + 256 * y) i ≡ bit_at x i
    low_of x y i within = ap (λ n. bit_at n i) (turned x y) ∙ bit_at_cat_low y 8 x i within

    high_of : (x y i : ℕ) → x < 256 → 8 ≤ i → bit_at (x + 256 * y) i ≡ bit_at y (i - 8)
    high_of x y i fits from = ap (λ n. bit_at n i) (turned x y) ∙ bit_at_cat_high y 8 x i fits from

-- where there is a mask of all of them
joined_agrees : (m a b p q r : Option ℕ) (mask v w : ℕ) → ((x : ℕ) → m ≡ Some x → x < 256)
    → ((x : ℕ) → a ≡ Some x → x < 256) → ((x : ℕ) → b ≡ Some x → x < 256)
    → ((x y : ℕ) → a ≡ Some x → b ≡ Some y → Agree (byte_unknown m) x y)
    → ((x y z : ℕ) → p ≡ Some x → q ≡ Some y → r ≡ Some z → Agree x y z)
    → joined m p ≡ Some mask → joined a q ≡ Some v → joined b r ≡ Some w → Agree mask v w
joined_agrees (Some m) (Some a) (Some b) (Some p) (Some q) (Some r) mask v w m-fits a-fits b-fits low high is is' is'' =
    subst (λ x. Agree x v w) (same_Some (m + 256 * p) mask is)
    (subst (λ x. Agree (m + 256 * p) x w) (same_Some (a + 256 * q) v is')
    (subst (λ x. Agree (m + 256 * p) (a + 256 * q) x) (same_Some (b + 256 * r) w is'')
    (cat_agrees (m-fits m refl) (a-fits a refl) (b-fits b refl) (low a b refl refl) (high p q r refl refl refl))))
joined_agrees None a b p q r mask v w m-fits a-fits b-fits low high is is' is'' = cc
joined_agrees (Some m) a b None q r mask v w m-fits a-fits b-fits low high is is' is'' = cc
joined_agrees (Some m) None b (Some p) q r mask v w m-fits a-fits b-fits low high is is' is'' = cc
joined_agrees (Some m) (Some a) b (Some p) None r mask v w m-fits a-fits b-fits low high is is' is'' = cc
joined_agrees (Some m) (Some a) None (Some p) (Some q) r mask v w m-fits a-fits b-fits low high is is' is'' = cc
joined_agrees (Some m) (Some a) (Some b) (Some p) (Some q) None mask v w m-fits a-fits b-fits low high is is' is'' = cc

module _ (marks old new : ByteMap) (masks : AreBytes marks) (olds : AreBytes old) (news : AreBytes new)
    (agree : BytesAgree marks old new) where
  masked_agree : (n a mask v w : ℕ) → number_at marks n a ≡ Some mask → number_at old n a ≡ Some v
      → number_at new n a ≡ Some w → Agree mask v w
  unfolding number_at
  masked_agree zero a mask v w is is' is'' =
      subst (λ x. Agree mask v x) (sym (same_Some 0 v is') ∙ same_Some 0 w is'') (agree_itself mask v)
  masked_agree (suc n) a mask v w is is' is'' =
      joined_agrees (marks a) (old a) (new a) (number_at marks n (a + 1)) (number_at old n (a + 1))
      (number_at new n (a + 1)) mask v w (masks a) (olds a) (news a) (agree a) (masked_agree n (a + 1)) is is' is''

  pub numbers_agree : (size : Size) (a v w : ℕ) → number_at old (byte_count size) a ≡ Some v
      → number_at new (byte_count size) a ≡ Some w
      → Agree (number_unknown (number_at marks (byte_count size) a)) v w
  numbers_agree size a v w is is' = by_mask (number_at marks (byte_count size) a) refl
    where
      by_mask : (o : Option ℕ) → number_at marks (byte_count size) a ≡ o → Agree (number_unknown o) v w
      by_mask (Some mask) there = masked_agree (byte_count size) a mask v w there is is'
      by_mask None there = all_agree v w (word_fits old olds size a v is) (word_fits new news size a w is')

-- Bytes of numbers that agree do.

put_byte : (here : Bool) (m v w : ℕ) (o p q : Option ℕ) → Agree m v w
    → ((b c : ℕ) → p ≡ Some b → q ≡ Some c → Agree (byte_unknown o) b c) → (b c : ℕ) → cond here (Some v) p ≡ Some b
    → cond here (Some w) q ≡ Some c → Agree (byte_unknown (cond here (Some m) o)) b c
put_byte true m v w o p q agree others b c is is' =
    subst (λ x. Agree m x c) (same_Some v b is) (subst (λ x. Agree m v x) (same_Some w c is') agree)
put_byte false m v w o p q agree others b c is is' = others b c is is'

pub put_agrees : (marks old new : ByteMap) → BytesAgree marks old new → (n a mask v w : ℕ) → Agree mask v w
    → BytesAgree (with_number marks n a mask) (with_number old n a v) (with_number new n a w)
unfolding with_number
put_agrees marks old new agree zero a mask v w same = agree
put_agrees marks old new agree (suc n) a mask v w same = λ x.
    put_byte (nat_eq x a) (mask % 256) (v % 256) (w % 256) (with_number marks n (a + 1) (mask / 256) x)
    (with_number old n (a + 1) (v / 256) x) (with_number new n (a + 1) (w / 256) x) (low_agrees same 8)
    (put_agrees marks old new agree n (a + 1) (mask / 256) (v / 256) (w / 256) (moved_agrees same 8) x)

byte_put : (here : Bool) (v : ℕ) (o : Option ℕ) → v < 256 → ((b : ℕ) → o ≡ Some b → b < 256) → (b : ℕ)
    → cond here (Some v) o ≡ Some b → b < 256
byte_put true v o fits others b is = omega (arith, same_Some v b is, fits)
byte_put false v o fits others b is = others b is

pub put_bytes : (bytes : ByteMap) → AreBytes bytes → (n a v : ℕ) → AreBytes (with_number bytes n a v)
unfolding with_number
put_bytes bytes are zero a v = are
put_bytes bytes are (suc n) a v = λ x.
    byte_put (nat_eq x a) (v % 256) (with_number bytes n (a + 1) (v / 256) x) (mod_below v 256 (omega arith))
    (put_bytes bytes are n (a + 1) (v / 256) x)
