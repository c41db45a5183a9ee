-- What is put into an object has no float.
use Rattle.std.proofs.Common.{◌≡◌, ℕ, List, [], ◌∷◌, map, false, Ordering, Less, Equal, Greater, refl}
use Rattle.std.proofs.Common.{nat_cmp, Global, Ok, Err, OnOk, OnErr, Result, String}
use Rattle.std.proofs.lemmas.Bool.{or_parts}
use Rattle.std.specs.Cmp.Lexicographic.{slice_cmp}
use Rattle.std.specs.Ordering.{match_ordering}
use Rattle.serde_json.specs.Data.{Data, Members, no_members, member, put, string}
use Rattle.serde_json.specs.View.{items_of, members_view}
use Rattle.serde_json.specs.Written.{has_float, items_have_float, members_have_float}
use Rattle.serde_json.specs.declared.value.Value.{Value}

chosen : (o : Ordering) (a b c : Members) → members_have_float a ≡ false → members_have_float b ≡ false
    → members_have_float c ≡ false → members_have_float (match_ordering o a b c) ≡ false
chosen Less a b c first second third = first
chosen Equal a b c first second third = second
chosen Greater a b c first second third = third

pub put_without_float : (key : List ℕ) (d : Data) (ms : Members) → has_float d ≡ false → members_have_float ms ≡ false
    → members_have_float (put key d ms) ≡ false
put_without_float key d no_members plain others = rw plain others
put_without_float key d (member l e ms) plain others =
    let parts = or_parts (has_float e) (members_have_float ms) others in
    chosen (slice_cmp nat_cmp key l) _ _ _ (rw plain others) (rw plain parts.1)
    (rw parts.0 (put_without_float key d ms plain parts.1))

pub texts_without_float : (texts : List (List ℕ)) → items_have_float (items_of (map string texts)) ≡ false
texts_without_float [] = refl
texts_without_float (text ∷ texts) = texts_without_float texts

-- an object whose member was set, or was not
pub still_without_float : {T E : Type 0} (before after : List (String Global × Value)) (key : List ℕ) (d : Data)
    (result : Result T E) → OnOk result (members_view after ≡ put key d (members_view before))
    → OnErr result (after ≡ before) → has_float d ≡ false → members_have_float (members_view before) ≡ false
    → members_have_float (members_view after) ≡ false
still_without_float before after key d (Ok done) is kept plain others =
    rw is (put_without_float key d (members_view before) plain others)
still_without_float before after key d (Err refused) is kept plain others = rw kept others
