use Rattle.std.proofs.Common.{◌≡◌, ℕ, ◌≤◌, List, [], ◌∷◌, get_or, length, Option, None, Some, refl, sym, arith, ◌∙◌}
use Rattle.std.proofs.Common.{ap, Bool, if◌then◌else◌}
use Rattle.codegen.proofs.Language.{straight_block, straight_tree, FlatVariable, StraightStatement}
use Rattle.codegen.proofs.Machine.{Allocation, Frame, HasPlace, HavePlaces, word_put}
use Rattle.codegen.proofs.WordPlaces.{too_few}
use Rattle.codegen.specs.declared.word_puts.BytePut.{BytePut}
use Rattle.codegen.specs.declared.word_puts.WordPut.{WordPut}
use Rattle.codegen.specs.private.WordPuts.{are_a_word, byte_put, word_of_bytes}
use Rattle.codegen.proofs.word_puts.word_put.Goals as goal

-- the word that the first four of some statements put, of what each of these puts
of_four : (declared : List FlatVariable) (al : Allocation) (statements : List StraightStatement)
    {a b c d : StraightStatement} {one two three four : Option BytePut} → 4 ≤ length statements
    → a ≡ get_or statements 0 a → b ≡ get_or statements 1 b → c ≡ get_or statements 2 c → d ≡ get_or statements 3 d
    → byte_put declared al (straight_tree a) ≡ one → byte_put declared al (straight_tree b) ≡ two
    → byte_put declared al (straight_tree c) ≡ three → byte_put declared al (straight_tree d) ≡ four
    → word_put declared al (straight_block statements) ≡ word_of_bytes one two three four
of_four declared al (s ∷ t ∷ u ∷ v ∷ rest) many first second third fourth is is2 is3 is4 =
    rw (sym is, sym is2, sym is3, sym is4, first, second, third, fourth)
of_four declared al [] many _ _ _ _ _ _ _ _ = absurd (omega (arith, many))
of_four declared al (s ∷ []) many _ _ _ _ _ _ _ _ = absurd (omega (arith, many))
of_four declared al (s ∷ t ∷ []) many _ _ _ _ _ _ _ _ = absurd (omega (arith, many))
of_four declared al (s ∷ t ∷ u ∷ []) many _ _ _ _ _ _ _ _ = absurd (omega (arith, many))

-- four bytes are a word or not
if_they_are : (a b c d : BytePut) {they : Bool} → are_a_word a b c d ≡ they
    → word_of_bytes (Some a) (Some b) (Some c) (Some d)
    ≡ (if they then Some (record { offset = a.offset; variable = a.variable }) else None)
if_they_are a b c d is =
    ap (λ (they : Bool). if they then Some (record { offset = a.offset; variable = a.variable }) else None) is

-- each of the four has its place
places : (layout : Frame) (depth : ℕ) (statements : List StraightStatement) {a b c d : StraightStatement}
    → 4 ≤ length statements → a ≡ get_or statements 0 a → b ≡ get_or statements 1 b → c ≡ get_or statements 2 c
    → d ≡ get_or statements 3 d → HavePlaces layout depth (straight_block statements)
    → HasPlace layout depth (straight_tree a) × HasPlace layout depth (straight_tree b)
    × HasPlace layout depth (straight_tree c) × HasPlace layout depth (straight_tree d)
places layout depth (s ∷ t ∷ u ∷ v ∷ rest) many first second third fourth all =
    rw (first, second, third, fourth) (all.0, all.1.0, all.1.1.0, all.1.1.1.0)
places layout depth [] many _ _ _ _ _ = absurd (omega (arith, many))
places layout depth (s ∷ []) many _ _ _ _ _ = absurd (omega (arith, many))
places layout depth (s ∷ t ∷ []) many _ _ _ _ _ = absurd (omega (arith, many))
places layout depth (s ∷ t ∷ u ∷ []) many _ _ _ _ _ = absurd (omega (arith, many))

pub returns-in_default-clause-word : goal.returns-in_default-clause-word
returns-in_default-clause-word c =
    too_few c.args.layout.now.declared c.args.layout.now.allocation c.args.statements.now c.in_default.len_below

pub returns-in_err-a-clause-word : goal.returns-in_err-a-clause-word
returns-in_err-a-clause-word c =
    c.from_residual.ensures
    ∙ sym (of_four c.args.layout.now.declared c.args.layout.now.allocation c.args.statements.now
    c.in-len4-up.len_at_least c.a-item.is c.b-item.is c.c-item.is c.d-item.is
    (sym c.byte_put.ensures.byte ∙ c.in_err-a.was) refl refl refl)

pub returns-in_err-b-clause-word : goal.returns-in_err-b-clause-word
returns-in_err-b-clause-word c =
    c.from_residual-in_err-b.ensures
    ∙ sym (of_four c.args.layout.now.declared c.args.layout.now.allocation c.args.statements.now
    c.in-len4-up.len_at_least c.a-item.is c.b-item.is c.c-item.is c.d-item.is
    (sym c.byte_put.ensures.byte ∙ c.in_ok-a.was)
    (sym c.byte_put-2.ensures.byte ∙ c.in_err-b.was) refl refl)

pub returns-in_err-c-clause-word : goal.returns-in_err-c-clause-word
returns-in_err-c-clause-word c =
    c.from_residual-in_err-c.ensures
    ∙ sym (of_four c.args.layout.now.declared c.args.layout.now.allocation c.args.statements.now
    c.in-len4-up.len_at_least c.a-item.is c.b-item.is c.c-item.is c.d-item.is
    (sym c.byte_put.ensures.byte ∙ c.in_ok-a.was)
    (sym c.byte_put-2.ensures.byte ∙ c.in_ok-b.was)
    (sym c.byte_put-3.ensures.byte ∙ c.in_err-c.was) refl)

pub returns-in_err-d-clause-word : goal.returns-in_err-d-clause-word
returns-in_err-d-clause-word c =
    c.from_residual-in_err-d.ensures
    ∙ sym (of_four c.args.layout.now.declared c.args.layout.now.allocation c.args.statements.now
    c.in-len4-up.len_at_least c.a-item.is c.b-item.is c.c-item.is c.d-item.is
    (sym c.byte_put.ensures.byte ∙ c.in_ok-a.was)
    (sym c.byte_put-2.ensures.byte ∙ c.in_ok-b.was)
    (sym c.byte_put-3.ensures.byte ∙ c.in_ok-c.was)
    (sym c.byte_put-4.ensures.byte ∙ c.in_err-d.was))

pub byte_put-requires : goal.byte_put-requires
byte_put-requires c = (
  c.requires.0,
  (places c.args.layout.now c.requires.0 c.args.statements.now
      c.in-len4-up.len_at_least c.a-item.is c.b-item.is c.c-item.is c.d-item.is
      c.requires.1).0,
)

pub byte_put-requires-2 : goal.byte_put-requires-2
byte_put-requires-2 c = (
  c.requires.0,
  (places c.args.layout.now c.requires.0 c.args.statements.now
      c.in-len4-up.len_at_least c.a-item.is c.b-item.is c.c-item.is c.d-item.is
      c.requires.1).1,
)

pub byte_put-requires-3 : goal.byte_put-requires-3
byte_put-requires-3 c = (
  c.requires.0,
  (places c.args.layout.now c.requires.0 c.args.statements.now
      c.in-len4-up.len_at_least c.a-item.is c.b-item.is c.c-item.is c.d-item.is
      c.requires.1).2,
)

pub byte_put-requires-4 : goal.byte_put-requires-4
byte_put-requires-4 c = (
  c.requires.0,
  (places c.args.layout.now c.requires.0 c.args.statements.now
      c.in-len4-up.len_at_least c.a-item.is c.b-item.is c.c-item.is c.d-item.is
      c.requires.1).3,
)

pub returns-then-are_a_word-clause-word : goal.returns-then-are_a_word-clause-word
returns-then-are_a_word-clause-word c =
    sym (of_four c.args.layout.now.declared c.args.layout.now.allocation c.args.statements.now
    c.in-len4-up.len_at_least c.a-item.is c.b-item.is c.c-item.is c.d-item.is
    (sym c.byte_put.ensures.byte ∙ c.in_ok-a.was)
    (sym c.byte_put-2.ensures.byte ∙ c.in_ok-b.was)
    (sym c.byte_put-3.ensures.byte ∙ c.in_ok-c.was)
    (sym c.byte_put-4.ensures.byte ∙ c.in_ok-d.was)
    ∙ if_they_are c.in_ok-a.a c.in_ok-b.b c.in_ok-c.c c.in_ok-d.d
    (sym c.are_a_word.ensures ∙ c.if-are_a_word.true))

pub returns-else-are_a_word-clause-word : goal.returns-else-are_a_word-clause-word
returns-else-are_a_word-clause-word c =
    sym (of_four c.args.layout.now.declared c.args.layout.now.allocation c.args.statements.now
    c.in-len4-up.len_at_least c.a-item.is c.b-item.is c.c-item.is c.d-item.is
    (sym c.byte_put.ensures.byte ∙ c.in_ok-a.was)
    (sym c.byte_put-2.ensures.byte ∙ c.in_ok-b.was)
    (sym c.byte_put-3.ensures.byte ∙ c.in_ok-c.was)
    (sym c.byte_put-4.ensures.byte ∙ c.in_ok-d.was)
    ∙ if_they_are c.in_ok-a.a c.in_ok-b.b c.in_ok-c.c c.in_ok-d.d
    (sym c.are_a_word.ensures ∙ c.if-are_a_word.false))
