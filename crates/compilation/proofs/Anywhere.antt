-- The code that is generated, plain or optimised, is followed from frames of any bytes.
use Rattle.std.proofs.Common.{◌≡◌, ◌≤◌, Bool, true, false, if◌then◌else◌, List, length, map, nat_le, None, Option, Some}
use Rattle.std.proofs.Common.{ap, arith, refl, subst, sym, ◌∙◌}
use Rattle.std.specs.Option.{option_map}
use Rattle.std.proofs.lemmas.Bool.{leb-true}
use Rattle.branch_removal.specs.Bounds.{IsCounted}
use Rattle.branch_removal.specs.Kept.{IsStraight}
use Rattle.codegen.proofs.ImageLemmas.{has_room, plain_fits, program_length}
use Rattle.codegen.proofs.Language.{StraightProgram}
use Rattle.codegen.proofs.Logic.{length-map, none-some, same_Some}
use Rattle.codegen.proofs.Machine.{Allocation, Fields, image_of, image_within, most_words, plain, program_code, word_of}
use Rattle.codegen.proofs.WordHomes.{word_homes_fit}
use Rattle.codegen.specs.Exact.{fields_of, optimised_fields_of}
use Rattle.codegen.specs.private.Homes.{word_homes}
use Rattle.compilation.specs.Begun.{FollowsAnywhere}
use Rattle.compilation.specs.Below.{IsGenerated, IsRemoved, RangedProgram}
use Rattle.compilation.specs.Needs.{Needs, needs_as, needs_of, optimised_needs, plain_needs}
use Rattle.codegen.proofs.Slotted.{slotted_plain}
use Rattle.codegen.specs.Exact.{optimised_variables}
use Rattle.inline.specs.declared.flat.FlatVariable.{FlatVariable}
use Rattle.compilation.specs.CodeFor.{IsCodeFor}
use Rattle.compilation.specs.declared.generated.Generated.{Generated}
use Rattle.compilation.proofs.AnyFrame.{follows_anywhere}

pub plain_follows : (p : StraightProgram) → IsStraight p → IsCounted p
    → FollowsAnywhere p (fields_of p) (plain_needs p)
unfolding fields_of
plain_follows p is counted =
    let laid = slotted_plain (length p.parameters) 0 p.declared in
    subst (λ (ds : List FlatVariable). FollowsAnywhere p (fields_of p) (needs_of ds p)) laid
    (follows_anywhere plain p (has_room p is) (plain_fits p) (program_length plain p counted (plain_fits p)))

-- an image that is there has no more words than are promised
there_within : (a : Allocation) (p : StraightProgram) (image : Fields) (b : Bool)
    → nat_le (length (image_of a p).words) (most_words p.nodes) ≡ b
    → (if b then Some (image_of a p) else None) ≡ Some image
    → (length (program_code a p) ≤ most_words p.nodes) × (image_of a p ≡ image)
there_within a p image true short made =
    let words : length (map word_of (program_code a p)) ≡ length (program_code a p) =
    length-map (program_code a p) word_of in
    let few = leb-true (length (image_of a p).words) (most_words p.nodes) short in
    (omega (arith, words, few), same_Some (image_of a p) image made)
there_within a p image false short made = absurd (none-some image made)

pub optimised_follows : (p : StraightProgram) (image : Fields) → IsStraight p → optimised_fields_of p ≡ Some image
    → FollowsAnywhere p image (optimised_needs p)
unfolding optimised_fields_of optimised_variables
optimised_follows p image is made =
    let a = word_homes p in
    let found = there_within a p image (nat_le (length (image_of a p).words) (most_words p.nodes)) refl made in
    subst (λ (f : Fields). FollowsAnywhere p f (optimised_needs p)) found.1
    (follows_anywhere a p (has_room p is) (word_homes_fit p) found.0)

-- So it is code for what it is generated from, and for that in whose place it stands.
pub plain_is_code : (p : StraightProgram) (made : Generated) → IsStraight p → IsCounted p → IsGenerated p made.code
    → made.code ≡ fields_of p → needs_as made.needs ≡ plain_needs p → IsCodeFor p made
plain_is_code p made is counted generated exact needs = record {
  source = p;
  stands = λ ranged removed. removed;
  generated = generated;
  follows = subst (λ (b : Needs). FollowsAnywhere p made.code b) (sym needs)
      (subst (λ (f : Fields). FollowsAnywhere p f (plain_needs p)) (sym exact) (plain_follows p is counted));
}

pub optimised_is_code : (given p : StraightProgram) (made : Generated) → IsStraight p
    → ((ranged : RangedProgram) → IsRemoved ranged given → IsRemoved ranged p) → IsGenerated p made.code
    → optimised_fields_of p ≡ Some made.code → needs_as made.needs ≡ optimised_needs p → IsCodeFor given made
optimised_is_code given p made is stands generated exact needs = record {
  source = p;
  stands = stands;
  generated = generated;
  follows = subst (λ (b : Needs). FollowsAnywhere p made.code b) (sym needs)
      (optimised_follows p made.code is exact);
}

-- what is generated for a body
abbrev pub IsFor : RangedProgram → Generated → Type 0
IsFor ranged made = (straight : StraightProgram) × IsRemoved ranged straight × IsGenerated straight made.code
    × FollowsAnywhere straight made.code (needs_as made.needs)

pub code_for_body : (ranged : RangedProgram) (p : StraightProgram) (made : Generated) → IsRemoved ranged p
    → IsCodeFor p made → IsFor ranged made
code_for_body ranged p made removed is = (is.source, is.stands ranged removed, is.generated, is.follows)

-- Whether the first of two that are tried is there.
pub code_there : (made : Option Generated) (g : Generated) (image : Option Fields)
    → option_map (λ (m : Generated). m.code) made ≡ image → made ≡ Some g → image ≡ Some g.code
code_there made g image is found = sym is ∙ ap (λ (o : Option Generated). option_map (λ (m : Generated). m.code) o) found

pub none_there : (made : Option Generated) (image : Option Fields)
    → option_map (λ (m : Generated). m.code) made ≡ image → made ≡ None → image ≡ None
none_there made image is found = sym is ∙ ap (λ (o : Option Generated). option_map (λ (m : Generated). m.code) o) found
