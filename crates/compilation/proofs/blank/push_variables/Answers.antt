use Rattle.std.proofs.Common.{◌≡◌, ℕ, zero, suc, ◌+◌, ◌-◌, ◌*◌, ◌<◌, ◌≤◌, ◌++◌, Bool, true, false, List, [], ◌∷◌, drop}
use Rattle.std.proofs.Common.{None, get_or, length, append_assoc, append-nil, arith, sym, ap, ◌∙◌, Vec, Global}
use Rattle.std.proofs.lemmas.List.{at_drop_all, at_drop_more}
use Rattle.compilation.specs.Blank.{blank_from, has_few_values, words_from}
use Rattle.compilation.specs.Below.{Boolean, FlatVariable}
use Rattle.inline.specs.FlatSize.{declared_words, words_of}
use Rattle.language.specs.declared.signature.Label.TheVariants.{Public}
use Rattle.compilation.proofs.blank.push_variables.Goals as goal
use Rattle.compilation.proofs.blank.push_variables.Goals.{else-number-parameters}
use Rattle.compilation.proofs.blank.push_variables.Goals.{else-number-parameters-via-else-number-parameters}
use Rattle.compilation.proofs.blank.push_variables.Goals.{else-number-parameters-via-then-number-parameters+else-has_few_values}
use Rattle.compilation.proofs.blank.push_variables.Goals.{then-number-parameters+then-has_few_values+in_ok-push_words}

module _ (parameters x low : ℕ) (d : FlatVariable) (rest : List FlatVariable) where
  -- what a variable and those behind it have
  abbrev here : List ℕ
  here = blank_from (parameters - x) low (d ∷ rest)

  -- and what those behind it have
  abbrev behind : List ℕ
  behind = blank_from (parameters - (x + 1)) (low + 4 * words_of d) rest

  with_few : parameters ≤ x → has_few_values d.word.kind d.elements ≡ true
      → here ≡ words_from low (words_of d) ++ behind
  with_few least few =
      let none : parameters - x ≡ zero = omega (arith, least) in
      let none_behind : parameters - (x + 1) ≡ zero = omega (arith, least) in
      rw (none, none_behind, few)

  with_many : parameters ≤ x → has_few_values d.word.kind d.elements ≡ false → here ≡ behind
  with_many least many =
      let none : parameters - x ≡ zero = omega (arith, least) in
      let none_behind : parameters - (x + 1) ≡ zero = omega (arith, least) in
      rw (none, none_behind, many)

  as_parameter : x < parameters → here ≡ behind
  as_parameter less =
      let more : parameters - x ≡ suc (parameters - (x + 1)) = omega (arith, less) in
      rw more

-- one more variable
one_more : (parameters x low words : ℕ) (ds : List FlatVariable) (d : FlatVariable) (front old new : List ℕ)
    → x < length ds → words ≡ words_of (get_or ds x d) → new ≡ old ++ front
    → here parameters x low (get_or ds x d) (drop (x + 1) ds)
    ≡ front ++ behind parameters x low (get_or ds x d) (drop (x + 1) ds)
    → new ++ blank_from (parameters - (x + 1)) (low + 4 * words) (drop (x + 1) ds)
    ≡ old ++ blank_from (parameters - x) low (drop x ds)
one_more parameters x low words ds d front old new less is pushed more =
    rw (pushed, is, append_assoc)
    (ap (λ (l : List ℕ). old ++ l) (sym more ∙ sym (at_drop_more (blank_from (parameters - x) low) ds x d less)))

-- the end stays where it is
low_more : (x low words end : ℕ) (ds : List FlatVariable) (d : FlatVariable) → x < length ds
    → words ≡ words_of (get_or ds x d) → low + 4 * declared_words (drop x ds) ≡ end
    → low + 4 * words + 4 * declared_words (drop (x + 1) ds) ≡ end
low_more x low words end ds d less is all = omega (arith, all, is, at_drop_more declared_words ds x d less)

-- what stands behind all variables
abbrev none : FlatVariable
none = record { word = record { kind = Boolean; label = Public }; mutable = false; elements = None }

pub loop-number-preserved : goal.loop-number-preserved
loop-number-preserved c =
    let l = c.loop-number in
    let p = c.args.parameters in
    let ds = c.args.declared.now in
    let less = c.loop-number-test.true in
    let old = l.offsets.items in
    let new = c.if-number-parameters.offsets.items in
    let rest = drop (l.number + 1) ds in
    let made : new ++ blank_from (p - (l.number + 1)) (l.low + 4 * c.words-count.result) rest
    ≡ old ++ blank_from (p - l.number) l.low (drop l.number ds) =
    elim c.if-number-parameters.branch [
      | then-number-parameters+then-has_few_values+in_ok-push_words w ↦
          one_more p l.number l.low c.words-count.result ds none _ old new less c.words-count.ensures
          (ap (λ (v : Vec ℕ Global). v.items) w.offsets-is
          ∙ w.in_ok-push_words.ensures
          ∙ ap (λ count. old ++ words_from l.low count) c.words-count.ensures)
          (with_few p l.number l.low (get_or ds l.number none) rest w.if-number-parameters.true
          (sym w.has_few_values.ensures ∙ w.if-has_few_values.true))
      | else-number-parameters w ↦
          elim w.else-number-parameters.branch [
            | else-number-parameters-via-then-number-parameters+else-has_few_values v ↦
                one_more p l.number l.low c.words-count.result ds none [] old new less c.words-count.ensures
                (ap (λ (v : Vec ℕ Global). v.items) w.offsets-is ∙ sym (append-nil old))
                (with_many p l.number l.low (get_or ds l.number none) rest v.if-number-parameters.true
                (sym v.has_few_values.ensures ∙ v.if-has_few_values.false))
            | else-number-parameters-via-else-number-parameters v ↦
                one_more p l.number l.low c.words-count.result ds none [] old new less c.words-count.ensures
                (ap (λ (v : Vec ℕ Global). v.items) w.offsets-is ∙ sym (append-nil old))
                (as_parameter p l.number l.low (get_or ds l.number none) rest v.if-number-parameters.false)
          ]
    ] in (
      made ∙ l.invariant.0,
      low_more l.number l.low c.words-count.result _ ds none less c.words-count.ensures l.invariant.1,
    )
