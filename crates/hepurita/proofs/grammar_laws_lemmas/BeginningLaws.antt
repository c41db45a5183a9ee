-- A front of a whole phrase begins it.
use Rattle.std.proofs.Common.{◌≡◌, ◌⊎◌, inl, inr, List, [], ◌∷◌, ◌++◌, refl, subst}
use Rattle.hepurita.specs.Below.{a_phrase, a_token, all, Begins, BeginsParts, by_case, in_case, in_phrase, IsOne}
use Rattle.hepurita.specs.Below.{Lexeme, no_part, no_token, CasePart, past_phrase, Phrase, Whole, WholeParts}
use Rattle.syntax.specs.Beginning.{past_token}

-- further tokens may stand behind the rest
mutual
  pub frame : {phrase : Phrase} {tokens rest : List Lexeme} → Whole phrase tokens rest → (others : List Lexeme)
      → Whole phrase (tokens ++ others) (rest ++ others)
  frame (by_case c whole) others = by_case c (frame_parts whole others)

  frame_parts : {parts : List CasePart} {tokens rest : List Lexeme} → WholeParts parts tokens rest
      → (others : List Lexeme) → WholeParts parts (tokens ++ others) (rest ++ others)
  frame_parts no_part others = no_part
  frame_parts (a_token is more) others = a_token is (frame_parts more others)
  frame_parts (a_phrase whole more) others = a_phrase (frame whole others) (frame_parts more others)

-- a front of a whole phrase begins it, or is whole itself
abbrev Front : Phrase → List Lexeme → List Lexeme → List Lexeme → Type 0
Front phrase front others rest = Begins phrase front
    ⊎ ((left : List Lexeme) × Whole phrase front left × (rest ≡ left ++ others))

abbrev FrontOfParts : List CasePart → List Lexeme → List Lexeme → List Lexeme → Type 0
FrontOfParts parts front others rest = BeginsParts parts front
    ⊎ ((left : List Lexeme) × WholeParts parts front left × (rest ≡ left ++ others))

-- a front of one is a front of the other
front_map : {A B : Type 0} {C D : List Lexeme → Type 0} {rest others : List Lexeme} → (A → B)
    → ((left : List Lexeme) → C left → D left) → A ⊎ ((left : List Lexeme) × C left × (rest ≡ left ++ others))
    → B ⊎ ((left : List Lexeme) × D left × (rest ≡ left ++ others))
front_map f g (inl begins) = inl (f begins)
front_map f g (inr (left, whole, is)) = inr (left, g left whole, is)

-- a front that ends in a phrase, or past it
front_by_phrase : {phrase : Phrase} {parts : List CasePart} {front others second rest : List Lexeme}
    → Front phrase front others second
    → ((left : List Lexeme) → second ≡ left ++ others → FrontOfParts parts left others rest)
    → FrontOfParts (all phrase ∷ parts) front others rest
front_by_phrase (inl begins) more = inl (in_phrase begins)
front_by_phrase (inr (left, whole, is)) more =
    front_map (λ begins. past_phrase whole begins) (λ _ parts. a_phrase whole parts) (more left is)

mutual
  front_of : {phrase : Phrase} {tokens rest : List Lexeme} → Whole phrase tokens rest → (front others : List Lexeme)
      → tokens ≡ front ++ others → Front phrase front others rest
  front_of (by_case c whole) front others is =
      front_map (λ begins. in_case c begins) (λ _ parts. by_case c parts) (front_of_parts whole front others is)

  front_of_parts : {parts : List CasePart} {tokens rest : List Lexeme} → WholeParts parts tokens rest
      → (front others : List Lexeme) → tokens ≡ front ++ others → FrontOfParts parts front others rest
  front_of_parts no_part front others is = inr (front, no_part, is)
  front_of_parts (a_token one_is more) [] others is = inl no_token
  front_of_parts (a_token {single} {t = t} {tokens} one_is more) (u ∷ front) others is =
      let same : t ≡ u = cc in
      let left : tokens ≡ front ++ others = cc in
      let u_is : IsOne single u = subst (IsOne single) same one_is in
      front_map (λ begins. past_token u_is begins) (λ _ parts. a_token u_is parts)
      (front_of_parts more front others left)
  front_of_parts (a_phrase whole more) front others is =
      front_by_phrase (front_of whole front others is) (λ left e. front_of_parts more left others e)

-- what is whole begins
mutual
  whole_begins : {phrase : Phrase} {tokens rest : List Lexeme} → Whole phrase tokens rest → rest ≡ []
      → Begins phrase tokens
  whole_begins (by_case c whole) is = in_case c (parts_begin whole is)

  parts_begin : {parts : List CasePart} {tokens rest : List Lexeme} → WholeParts parts tokens rest → rest ≡ []
      → BeginsParts parts tokens
  parts_begin no_part is = rw is no_token
  parts_begin (a_token one_is more) is = past_token one_is (parts_begin more is)
  parts_begin (a_phrase whole more) is = past_phrase whole (parts_begin more is)

none_left : (left others : List Lexeme) → [] ≡ left ++ others → left ≡ []
none_left [] others is = refl
none_left (t ∷ left) others is = cc

-- so does each front
pub front_begins : (phrase : Phrase) (front others : List Lexeme) → Whole phrase (front ++ others) []
    → Begins phrase front
front_begins phrase front others whole = go (front_of whole front others refl)
  where
    go : Front phrase front others [] → Begins phrase front
    go (inl begins) = begins
    go (inr (left, w, is)) = whole_begins w (none_left left others is)
