-- The word that four statements put, where some variables are not at home that these do not name.
use Rattle.std.proofs.Common.{◌≡◌, ℕ, ◌*◌, ◌<◌, ◌≤◌, ◌==◌, ◌||◌, Bool, true, false, List, length, Option, None, Some}
use Rattle.std.proofs.Common.{refl, subst, sym, ◌∙◌}
use Rattle.std.proofs.lemmas.Bool.{and_parts, not-true, or_parts}
use Rattle.std.proofs.lemmas.Option.{cond_some}
use Rattle.codegen.proofs.BlockParts.{behind, front}
use Rattle.codegen.proofs.FewerHomes.{assign_same, but, IsSimple, neither_of_three}
use Rattle.codegen.proofs.Language.{after_all, AreTyped, block_work, first, FlatVariable, IsTyped, path_along}
use Rattle.codegen.proofs.Language.{put, StraightBlock, StraightTree, TermTree}
use Rattle.codegen.proofs.Logic.{as_code, gives, layout_of, none-some, Ready, Runs, same_Some, Setting}
use Rattle.codegen.proofs.Machine.{Allocation, kind_at, word_code, word_put}
use Rattle.codegen.proofs.SettingBut.{fewer, in_all, typed_as, typed_same}
use Rattle.codegen.proofs.Slots.{Hidden}
use Rattle.codegen.proofs.StoredValues.{stored_alike}
use Rattle.codegen.proofs.TypedBut.{statement_typed}
use Rattle.codegen.proofs.WordPuts.{four_bytes, front_runs, put_known}
use Rattle.codegen.specs.Below.{binary, ShiftRight, variable, W32}
use Rattle.codegen.specs.declared.word_puts.BytePut.{BytePut}
use Rattle.codegen.specs.declared.word_puts.WordByte.{WordByte}
use Rattle.codegen.specs.declared.word_puts.WordPut.{WordPut}
use Rattle.expression_code.specs.NearElements.{near_element}
use Rattle.expression_code.specs.NumberRows.{number_of}
use Rattle.codegen.specs.private.Fresh.{is_fresh, names_in, passes}
use Rattle.codegen.specs.private.StoredValues.{stored_value}
use Rattle.codegen.specs.private.WordPuts.{byte_put, lowest_byte, moved_down}

-- the variable of a byte is one that the expression names

moved_named : (y : ℕ) (word : TermTree) (o : Option ℕ) (byte : WordByte) → moved_down word o ≡ Some byte
    → names_in y word ≡ false → (byte.variable == y) ≡ false
moved_named y (variable x) (Some n) byte is free =
    subst (λ (b : WordByte). (b.variable == y) ≡ false) (cond_some _ _ byte is).1 free
moved_named y word o byte is free = absurd (none-some byte is)

lowest_named : (y : ℕ) (e : TermTree) (byte : WordByte) → lowest_byte e ≡ Some byte → names_in y e ≡ false
    → (byte.variable == y) ≡ false
lowest_named y (variable x) byte is free =
    subst (λ (b : WordByte). (b.variable == y) ≡ false) (same_Some _ byte is) free
lowest_named y (binary source ShiftRight W32 word amount) byte is free =
    moved_named y word (number_of amount) byte is (or_parts _ _ free).0
lowest_named y e byte is free = absurd (none-some byte is)

-- a statement that puts a byte is simple, sets no variable afresh, and where it passes one, that is not the word's
record PassesByte (s : StraightTree) (byte : BytePut) : Type 0 where
  simple : IsSimple s
  passed : (rest : StraightBlock) (result : Option TermTree) (y : ℕ) → is_fresh y (first s rest) result ≡ true
      → (passes y s ≡ true) × (is_fresh y rest result ≡ true)
  other : (y : ℕ) → passes y s ≡ true → (byte.variable == y) ≡ false

passes_byte : (declared : List FlatVariable) (a : Allocation) (s : StraightTree) (byte : BytePut)
    → byte_put declared a s ≡ Some byte → PassesByte s byte
passes_byte declared a (put None source x size index value) byte is = record {
  simple = tt;
  passed = λ rest result y fresh.
      and_parts (passes y (put None source x size index value)) (is_fresh y rest result) fresh;
  other = λ y passed.
      let kind = kind_at declared x in
      let e = stored_value a kind value in
      let free = neither_of_three _ _ _
      (not-true ((x == y) || (names_in y index || names_in y value)) passed) in
      let known = put_known kind (near_element declared a x index) (lowest_byte e) byte is in
      lowest_named y e (record { variable = byte.variable; place = byte.place }) known.2
      (stored_alike (names_in y) (λ conversion operand. refl) a kind value ∙ free.2);
}
passes_byte declared a s byte is = absurd (none-some byte is)

-- the word goes by no home
byte_same : (declared : List FlatVariable) (a : Allocation) (out : ℕ → Bool) (s : StraightTree)
    → byte_put declared (but a out) s ≡ byte_put declared a s
byte_same declared a out (put None source x size index value) = refl
byte_same declared a out s = refl

word_same : (declared : List FlatVariable) (a : Allocation) (out : ℕ → Bool) (b : StraightBlock)
    → word_put declared (but a out) b ≡ word_put declared a b
word_same declared a out (first s (first t (first u (first v rest)))) =
    simp (byte_same declared a out)
word_same declared a out b = refl

-- what the first four statements of a block make of a state in which some variables are not at home, and how these are
-- read behind them
pub record FrontRun (z : Setting) (depth : ℕ) (out : ℕ → Bool) (b : StraightBlock) (result : Option TermTree)
    (word : WordPut) : Type 0 where
  pub runs : Runs z (32 * block_work z.counts (front 4 b)) (λ env. path_along env (front 4 b))
      (word_code (layout_of z) word) (Ready (fewer z out))
      (λ env s t. Ready (fewer z out) (after_all env (front 4 b)) t × Hidden z depth s t)
  pub fresh : (y : ℕ) → out y ≡ true → is_fresh y (behind 4 b) result ≡ true

module _ (z : Setting) (depth : ℕ) (within : depth ≤ z.depths) (out : ℕ → Bool)
    (variables : (y : ℕ) → out y ≡ true → y < length z.laid) where
  typed_there : (s : StraightTree) (byte : BytePut) → PassesByte s byte
      → IsTyped z.code.profile z.declared z.controls s → ((y : ℕ) → out y ≡ true → passes y s ≡ true)
      → IsTyped z.code.profile (typed_as z out) z.controls s
  typed_there s byte p typed passed =
      statement_typed out z.code.profile z.declared (typed_as z out) (typed_same z out) z.controls s p.simple typed
      passed

  pub front_run : (b : StraightBlock) (result : Option TermTree) (word : WordPut)
      → word_put z.laid z.allocation b ≡ Some word → ((y : ℕ) → out y ≡ true → is_fresh y b result ≡ true)
      → AreTyped z.code.profile z.declared z.controls (front 4 b) → FrontRun z depth out b result word
  front_run (first a (first b (first c (first d rest)))) result word is fresh typed =
      let block = first a (first b (first c (first d rest))) in
      let bytes = four_bytes (byte_put z.laid z.allocation a) (byte_put z.laid z.allocation b)
      (byte_put z.laid z.allocation c) (byte_put z.laid z.allocation d) word is in
      let one = passes_byte z.laid z.allocation a bytes.first.put bytes.first.is in
      let two = passes_byte z.laid z.allocation b bytes.second.put bytes.second.is in
      let three = passes_byte z.laid z.allocation c bytes.third.put bytes.third.is in
      let four = passes_byte z.laid z.allocation d bytes.fourth.put bytes.fourth.is in
      let p1 = λ (y : ℕ) (on : out y ≡ true). one.passed (first b (first c (first d rest))) result y (fresh y on) in
      let p2 = λ (y : ℕ) (on : out y ≡ true). two.passed (first c (first d rest)) result y (p1 y on).1 in
      let p3 = λ (y : ℕ) (on : out y ≡ true). three.passed (first d rest) result y (p2 y on).1 in
      let p4 = λ (y : ℕ) (on : out y ≡ true). four.passed rest result y (p3 y on).1 in
      let same = assign_same (layout_of z) out variables (variable word.variable) word.offset
      (λ y on. subst (λ x. (x == y) ≡ false) bytes.first.variable_is (one.other y (p1 y on).0)) in
      record {
        runs = as_code (sym same)
            (gives (λ env s t fine ready done. (done.ready, done.hidden))
            (in_all z out
            (front_runs (fewer z out) depth within block word (word_same z.laid z.allocation out block ∙ is) (
              typed_there a bytes.first.put one typed.0 (λ y on. (p1 y on).0),
              (
                typed_there b bytes.second.put two typed.1.0 (λ y on. (p2 y on).0),
                (
                  typed_there c bytes.third.put three typed.1.1.0 (λ y on. (p3 y on).0),
                  (
                    typed_there d bytes.fourth.put four typed.1.1.1.0 (λ y on. (p4 y on).0),
                    tt,
                  ),
                ),
              ),
            ))));
        fresh = λ y on. (p4 y on).1;
      }
  front_run b result word is fresh typed = absurd (none-some word is)
