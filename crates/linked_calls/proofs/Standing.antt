-- Where the parts of a function's words stand in code: the instructions before the body, the body, and those behind
-- it.
use Rattle.compilation.specs.Needs.{Needs}
use Rattle.std.proofs.Common.{◌≡◌, ℕ, suc, ◌+◌, ◌*◌, ◌≤◌, List, [], ◌∷◌, ◌++◌, length, map, Option, Some, None, refl}
use Rattle.std.proofs.Common.{sym, subst, arith, length-append}
use Rattle.std.proofs.lemmas.List.{length-map}
use Rattle.linked_calls.proofs.Below.{body_words, MachineCode, enter_code, Fields, function_words, IsSite, leave_code}
use Rattle.linked_calls.proofs.Below.{AreThere, arguments_code, Instr, Placed, CallSite, result_code, results_code, Stand}
use Rattle.linked_calls.proofs.Between.{body_at, leave_at}
use Rattle.linked_calls.specs.Below.{word_of}
use Rattle.linked_calls.proofs.Nearness.{arguments_short, body_few, is_near_where, leave_short}
use Rattle.linked_calls.proofs.Pieces.{placed}
use Rattle.linked_calls.specs.Copies.{CopierStands}
use Rattle.linked_calls.specs.Calls.{tail_ahead}
use Rattle.linked_calls.specs.FunctionCode.{copier_code, copier_end, copier_of, end_code, from_body, last_code}
use Rattle.linked_calls.specs.declared.pace.Pace.{Pace}
use Rattle.linked_calls.specs.declared.pace.Pace.TheVariants.{Fast, Small}
use Rattle.linked_calls.specs.declared.round.Round.{Round}

-- Words, one list after another.

stand_first : (code : MachineCode) (p : ℕ) (xs ys : List ℕ) → Stand code p (xs ++ ys) → Stand code p xs
stand_first code p [] ys h = tt
stand_first code p (x ∷ xs) ys h = (h.0, h.1, h.2, stand_first code (p + 4) xs ys h.3)

stand_then : (code : MachineCode) (p : ℕ) (xs ys : List ℕ) → Stand code p (xs ++ ys) → Stand code (p + 4 * length xs) ys
stand_then code p [] ys h =
    let e : p ≡ p + 4 * 0 = omega arith in
    subst (λ q. Stand code q ys) e h
stand_then code p (x ∷ xs) ys h =
    let e : p + 4 + 4 * length xs ≡ p + 4 * suc (length xs) = omega arith in
    subst (λ q. Stand code q ys) e (stand_then code (p + 4) xs ys h.3)

-- The function.

-- the code before the body, where it stands
abbrev pub entering_code : Fields → Needs → Pace → List Instr
entering_code image needs pace = enter_code image needs pace (from_body image pace)

abbrev enter_words : Fields → Needs → Pace → List ℕ
enter_words image needs pace = map word_of (entering_code image needs pace)

abbrev leave_words : Fields → Pace → List ℕ
leave_words image pace = map word_of (leave_code image pace)

abbrev last_words : Fields → Pace → ℕ → List ℕ
last_words image pace ahead = map word_of (last_code image pace ahead)

words_are : (image : Fields) (needs : Needs) (pace : Pace) (ahead : ℕ)
    → function_words image needs pace ahead
    ≡ enter_words image needs pace ++ body_words image.words ++ leave_words image pace ++ last_words image pace ahead
unfolding function_words
words_are image needs pace ahead = refl

-- at a small pace there is no copier
copier_of_last : (image : Fields) (pace : Pace) (code : MachineCode) (q ahead : ℕ)
    → AreThere code q (last_code image pace ahead) → AreThere code q (copier_end (copier_of image pace))
copier_of_last image Fast code q ahead there = there
copier_of_last image Small code q ahead there = tt

module _ (image : Fields) {needs : Needs} {pace : Pace} (code : MachineCode) (site : CallSite) (is : IsSite image needs pace code site) where
  abbrev pub ahead : ℕ
  ahead = tail_ahead image needs pace site

  all_stand : Stand code site.entry
      (enter_words image needs pace ++ body_words image.words ++ leave_words image pace ++ last_words image pace ahead)
  all_stand = subst (λ words. Stand code site.entry words) (words_are image needs pace ahead) is.words

  left_stands : Stand code site.entry (enter_words image needs pace ++ body_words image.words ++ leave_words image pace)
  left_stands = stand_first code site.entry
      (enter_words image needs pace ++ body_words image.words ++ leave_words image pace) (last_words image pace ahead) all_stand

  entered_stands : Stand code site.entry (enter_words image needs pace ++ body_words image.words)
  entered_stands = stand_first code site.entry (enter_words image needs pace ++ body_words image.words)
      (leave_words image pace) left_stands

  pub enter_placed : Placed code site.entry (entering_code image needs pace)
  enter_placed = placed code site.entry (entering_code image needs pace)
      (stand_first code site.entry (enter_words image needs pace) (body_words image.words) entered_stands)

  pub body_stands : Stand code (body_at image needs pace site) (body_words image.words)
  body_stands =
      subst (λ n. Stand code (site.entry + 4 * n) (body_words image.words)) (length-map (entering_code image needs pace) word_of)
      (stand_then code site.entry (enter_words image needs pace) (body_words image.words) entered_stands)

  to_leave : site.entry + 4 * length (enter_words image needs pace ++ body_words image.words) ≡ leave_at image needs pace site
  to_leave =
      let a = length-append (enter_words image needs pace) (body_words image.words) in
      let b = length-map (entering_code image needs pace) word_of in
      omega arith

  pub leave_placed : Placed code (leave_at image needs pace site) (leave_code image pace)
  leave_placed =
      placed code (leave_at image needs pace site) (leave_code image pace)
      (subst (λ q. Stand code q (leave_words image pace)) to_leave
      (stand_then code site.entry (enter_words image needs pace ++ body_words image.words) (leave_words image pace) left_stands))

  to_last : site.entry + 4 * length (enter_words image needs pace ++ body_words image.words ++ leave_words image pace)
      ≡ leave_at image needs pace site + 4 * length (leave_code image pace)
  to_last =
      let a = length-append (enter_words image needs pace ++ body_words image.words) (leave_words image pace) in
      let b = length-map (leave_code image pace) word_of in
      let c = to_leave in
      omega arith

  last_stands : AreThere code (leave_at image needs pace site + 4 * length (leave_code image pace))
      (last_code image pace ahead)
  last_stands =
      subst (λ q. Stand code q (last_words image pace ahead)) to_last
      (stand_then code site.entry (enter_words image needs pace ++ body_words image.words ++ leave_words image pace)
      (last_words image pace ahead) all_stand)

  pub last_placed : Placed code (leave_at image needs pace site + 4 * length (leave_code image pace))
      (last_code image pace ahead)
  last_placed = placed code (leave_at image needs pace site + 4 * length (leave_code image pace))
      (last_code image pace ahead) last_stands

  copier_stands : AreThere code (leave_at image needs pace site + 4 * length (leave_code image pace))
      (copier_end (copier_of image pace))
  copier_stands = copier_of_last image pace code (leave_at image needs pace site + 4 * length (leave_code image pace)) ahead
      last_stands

  -- from an address on, so many instructions before the copier
  copier_behind : (copier : Option Round) → copier_of image pace ≡ copier → (p behind : ℕ)
      → p + 4 * behind ≡ leave_at image needs pace site + 4 * length (leave_code image pace)
      → behind ≤ 64 * length image.slots + from_body image pace → CopierStands code p behind copier
  copier_behind None none p behind there few = tt
  copier_behind (Some round) has p behind there few =
      let near = is_near_where image pace round has in
      let short = leave_short image pace in
      let words = body_few image.words in (
        omega arith,
        subst (λ q. AreThere code q (copier_code round)) (sym there)
            (subst (λ (copier : Option Round). AreThere code (leave_at image needs pace site + 4 * length (leave_code image pace))
            (copier_end copier)) has copier_stands),
      )

  -- before the arguments
  pub arguments_copier : (p : ℕ)
      → p + 4 * length (arguments_code image pace needs.spared (from_body image pace) 0 image.slots)
      ≡ body_at image needs pace site
      → CopierStands code p
      (length (arguments_code image pace needs.spared (from_body image pace) 0 image.slots) + from_body image pace)
      (copier_of image pace)
  arguments_copier p there =
      let short = arguments_short image pace needs.spared (from_body image pace) 0 image.slots in
      copier_behind (copier_of image pace) refl p
      (length (arguments_code image pace needs.spared (from_body image pace) 0 image.slots) + from_body image pace)
      (omega arith) (omega arith)

  -- and before the arrays that go back
  pub results_copier : (p : ℕ)
      → p + 4 * (length (results_code image pace (length (end_code image pace)) 0 image.slots) + length (end_code image pace))
      ≡ leave_at image needs pace site + 4 * length (leave_code image pace)
      → CopierStands code p
      (length (results_code image pace (length (end_code image pace)) 0 image.slots) + length (end_code image pace))
      (copier_of image pace)
  results_copier p there =
      let results = results_code image pace (length (end_code image pace)) 0 image.slots in
      let all = length-append (result_code image.returned ++ results) (end_code image pace) in
      let first = length-append (result_code image.returned) results in
      copier_behind (copier_of image pace) refl p (length results + length (end_code image pace)) there (omega arith)
