-- Names that hold values, looked up and set in a map.
use Rattle.std.proofs.Common.{◌≡◌, ℕ, Bool, true, false, List, Option, Some, None, cond, refl, sym, ap, ◌∙◌}
use Rattle.std.proofs.Math.Path.{fun_ext}
use Rattle.std.proofs.lemmas.Map.Text.{hash_map_updates_str}
use Rattle.std.proofs.lemmas.Bool.Decides.{Decides-like, same_from_decides}
use Rattle.std.proofs.lemmas.Slice.Eq.{bytes_eq-Decides}
use Rattle.std.specs.HashMap.{get_by, UpdatesBy}
use Rattle.std.specs.Option.{option_map, option_copied}
use Rattle.std.specs.Str.{bytes_eq}
use denote.Bor.{Bor}
use Rattle.source_eval.specs.Below.{with_element, with_some, with_value, Word}
use Rattle.source_eval.specs.Views.{held, value_of}
use Rattle.source_eval.specs.declared.values.Value.{Value}
use Rattle.source_eval.specs.declared.variables.Variables.{Variables}

pub bytes_eq-symmetric : (xs ys : List ℕ) → bytes_eq xs ys ≡ bytes_eq ys xs
bytes_eq-symmetric xs ys =
    same_from_decides (bytes_eq xs ys) (bytes_eq ys xs)
    (Decides-like (bytes_eq xs ys) (λ h. sym h) (λ h. sym h) (bytes_eq-Decides xs ys)) (bytes_eq-Decides ys xs)

mapped : (b : Bool) (value : Value) (other : Option Value)
    → option_map value_of (cond b (Some value) other) ≡ cond b (Some (value_of value)) (option_map value_of other)
mapped true value other = refl
mapped false value other = refl

-- a map of which a key's value was set holds that value
pub held-set : (m n : Variables) (text : List ℕ) (value : Value)
    → UpdatesBy (λ x y. bytes_eq x.now y.now) (λ key. bytes_eq text key.now) m.values n.values (Some value)
    → held n ≡ with_value (held m) text (value_of value)
unfolding held
held-set m n text value updates = fun_ext (λ other.
    ap (option_map value_of) (hash_map_updates_str text m.values n.values (Some value) updates other)
    ∙ mapped (bytes_eq text other) value (get_by (λ key. bytes_eq other key.now) m.values)
    ∙ ap (λ b. cond b (Some (value_of value)) (held m other)) (bytes_eq-symmetric text other))

pub copied : (o : Option (Bor Value)) → option_map (λ value. value_of value.now) o
    ≡ option_map value_of (option_copied o)
copied None = refl
copied (Some value) = refl

-- what a name holds
pub held-at : (m : Variables) (text : List ℕ) (found : Option Value)
    → found ≡ get_by (λ key. bytes_eq text key.now) m.values → held m text ≡ option_map value_of found
unfolding held
held-at m text found is = ap (option_map value_of) (sym is)

-- a map in which an element of a value was set
pub held-put : (m n : Variables) (text : List ℕ) (old new : Value) (index : ℕ) (word : Word)
    → UpdatesBy (λ x y. bytes_eq x.now y.now) (λ key. bytes_eq text key.now) m.values n.values (Some new)
    → Some old ≡ get_by (λ key. bytes_eq text key.now) m.values
    → Some (value_of new) ≡ with_element (Some (value_of old)) index word
    → held n ≡ with_some (held m) text (with_element (held m text) index word)
held-put m n text old new index word updates is put =
    held-set m n text new updates
    ∙ ap (with_some (held m) text) (put ∙ ap (λ o. with_element o index word) (sym (held-at m text (Some old) is)))

-- one that lacks the name stays as it is
pub held-lacks : (m : Variables) (text : List ℕ) (index : ℕ) (word : Word)
    → None ≡ get_by (λ key. bytes_eq text key.now) m.values
    → held m ≡ with_some (held m) text (with_element (held m text) index word)
held-lacks m text index word is =
    ap (λ o. with_some (held m) text (with_element o index word)) (sym (held-at m text None is))
