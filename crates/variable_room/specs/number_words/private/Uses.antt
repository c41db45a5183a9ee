-- How much a program uses each number that no instruction holds: the sum of 8 to the number of loops around, over the
-- places in which it stands. So many different ones are counted, the first ones. No weight goes beyond the greatest
-- number of 64 bits.
use Rattle.std.specs.Prelude.{ℕ, ◌+◌, ◌-◌, ◌^◌, ◌==◌, ◌&&◌, Bool, List, [], ◌∷◌, ◌++◌, length, min, nat_le, nat_lt}
use Rattle.std.specs.Prelude.{if◌then◌else◌, Option, None, Some, slice_get, slice_set}
use Rattle.variable_room.specs.Below.{array, binary, branch, convert, element, first, nothing, number, prefix, put}
use Rattle.variable_room.specs.Below.{repeats, rotate, same_kind, select, set, StraightBlock, StraightProgram}
use Rattle.variable_room.specs.Below.{StraightTree, take, TermTree, truth, variable, weight_inside}
use Rattle.variable_room.specs.declared.number_words.uses.NumberUse.{NumberUse}
use Rattle.variable_room.specs.declared.number_words.uses.TypedNumber.{TypedNumber}

abbrev pub most_counted : ℕ
most_counted = 256

-- a number that 12 bits do not hold in two's complement
abbrev pub is_long : ℕ → Bool
is_long n = nat_le 2048 n && nat_lt n (2 ^ 32 - 2048)

abbrev pub same_number : TypedNumber → TypedNumber → Bool
same_number n m = n.value == m.value && same_kind n.kind m.kind

-- where a number stands among those that are counted; behind the last of them where it is none
abbrev pub place_of : List NumberUse → TypedNumber → ℕ
place_of [] n = 0
place_of (each ∷ uses) n = if same_number each.number n then 0 else 1 + place_of uses n

-- one of them is used more by so much
abbrev pub with_more : ℕ → Option NumberUse → ℕ → List NumberUse → List NumberUse
with_more place None weight uses = uses
with_more place (Some each) weight uses =
    slice_set uses place (record { number = each.number; weight = min (each.weight + weight) (2 ^ 64 - 1) })

abbrev pub heavier : ℕ → ℕ → List NumberUse → List NumberUse
heavier place weight uses = with_more place (slice_get uses place) weight uses

-- with one more use of a number
abbrev pub counted : ℕ → TypedNumber → List NumberUse → List NumberUse
counted weight n uses = if nat_lt (place_of uses n) (length uses) then heavier (place_of uses n) weight uses
    else if is_long n.value && nat_lt (length uses) most_counted
    then uses ++ (record { number = n; weight = weight } ∷ [])
    else uses

-- with those in an expression
abbrev pub counted_in : ℕ → TermTree → List NumberUse → List NumberUse
counted_in weight (number value kind) uses = counted weight (record { value = value; kind = kind }) uses
counted_in weight (truth value) uses = uses
counted_in weight (variable x) uses = uses
counted_in weight (prefix operator width e) uses = counted_in weight e uses
counted_in weight (binary place operator width left right) uses =
    counted_in weight right (counted_in weight left uses)
counted_in weight (rotate width e amount) uses = counted_in weight e uses
counted_in weight (convert kind e) uses = counted_in weight e uses
counted_in weight (select condition accepted otherwise) uses =
    counted_in weight otherwise (counted_in weight accepted (counted_in weight condition uses))
counted_in weight (element place x size index) uses = counted_in weight index uses

abbrev pub counted_in_terms : ℕ → List TermTree → List NumberUse → List NumberUse
counted_in_terms weight [] uses = uses
counted_in_terms weight (e ∷ es) uses = counted_in_terms weight es (counted_in weight e uses)

abbrev mutual
  -- with those in a statement
  pub counted_by : ℕ → StraightTree → List NumberUse → List NumberUse
  counted_by weight (set within x value) uses = counted_in weight value uses
  counted_by weight (array x size values) uses = counted_in_terms weight values uses
  counted_by weight (put within place x size index value) uses =
      counted_in weight value (counted_in weight index uses)
  counted_by weight (take control within condition) uses = counted_in weight condition uses
  counted_by weight (branch condition accepted otherwise) uses =
      counted_by_all weight otherwise (counted_by_all weight accepted (counted_in weight condition uses))
  counted_by weight (repeats x low high body) uses =
      counted_by_all (weight_inside weight) body (counted_in weight high (counted_in weight low uses))

  -- with those in statements, one after the other
  pub counted_by_all : ℕ → StraightBlock → List NumberUse → List NumberUse
  counted_by_all weight nothing uses = uses
  counted_by_all weight (first statement rest) uses = counted_by_all weight rest (counted_by weight statement uses)

-- with those in a result, where there is one
abbrev pub counted_in_result : Option TermTree → List NumberUse → List NumberUse
counted_in_result None uses = uses
counted_in_result (Some value) uses = counted_in 1 value uses

-- how much a program uses its numbers
abbrev pub uses_of : StraightProgram → List NumberUse
uses_of p = counted_in_result p.value (counted_by_all 1 p.body [])
