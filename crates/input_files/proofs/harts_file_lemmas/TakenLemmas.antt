-- Lines that were taken one after another, and the answer that they give.
use Rattle.std.proofs.Common.{◌≡◌, ◌⊎◌, ℕ, ◌+◌, Bool, true, false, List, [], ◌∷◌, ◌++◌, length, map, Option, Some, None}
use Rattle.std.proofs.Common.{⊎_elim, refl, sym, ap, subst, ◌∙◌, arith, append_assoc, append-nil, length-append}
use Rattle.std.proofs.Common.{lit<, suc, zero, Vec, Global, ◌==◌, ne_eqb}
use Rattle.std.specs.Prelude.{is_some}
use Rattle.std.proofs.lemmas.Bool.{false≢true}
use Rattle.std.proofs.lemmas.Bool.Decides.{nat_tests}
use Rattle.std.proofs.Common.{eq-eqb}
use Rattle.std.proofs.lemmas.List.{length-map, map-append, nil_from_length}
use Rattle.std.proofs.lemmas.List.Elements.{All-nil, All-append, All-cons}
use Rattle.std.proofs.lemmas.Str.{IsUtf8-append, IsUtf8-from_ascii, IsUtf8-nil}
use Rattle.std.specs.Str.{IsAscii, IsUtf8}
use Rattle.input_files.specs.harts_file.Lines.{LineContent, lines_of, said_in, said_of}
use Rattle.input_files.specs.harts_file.Faults.{AreFine, given_by, GivenByLines, IsFault, of_line, rule_of}
use Rattle.input_files.specs.harts_file.private.Reading.{given_with, given_to, HasEnded, HasRead, HasTaken, IsTaken}
use Rattle.input_files.specs.harts_file.private.Reading.{OnOneLine, TakesLine}
use Rattle.input_files.specs.declared.harts_file.pieces.PlanFile.{PlanFile}
use Rattle.input_files.specs.declared.harts_file.taken_lines.LineFault.{LineFault}
use Rattle.input_files.specs.declared.harts_file.taken_lines.TakenLines.{TakenLines}
use Rattle.input_files.proofs.harts_file_lemmas.LineLemmas.{line_ended, line_left, utf8_behind, utf8_line}
use Rattle.input_files.proofs.harts_file_lemmas.PlanLemmas.{Planned, fine-more, given_by-more, planned-more, planned-none}

-- ---- one line more
module _ (said : List (Option LineContent)) (line : Option LineContent) where
  pub taken_behind : (fault : LineFault) (given given' : GivenByLines) → HasTaken said (Some fault) given
      → HasTaken (said ++ line ∷ []) (Some fault) given'
  taken_behind fault given given' (front, rest, faulty, is, fine, broken, number) = (
    front,
    rest ++ line ∷ [],
    faulty,
    ap (λ l. l ++ line ∷ []) is ∙ append_assoc front (faulty ∷ rest) (line ∷ []),
    fine,
    broken,
    number,
  )

  pub taken_faulty : (fault : LineFault) (given given' : GivenByLines) → HasTaken said None given
      → rule_of given line ≡ Some fault.rule → fault.line ≡ length said + 1
      → HasTaken (said ++ line ∷ []) (Some fault) given'
  taken_faulty fault given given' (is, fine) broken number =
      (said, [], line, refl, fine, ap (λ g. rule_of g line) (sym is) ∙ broken, number)

  pub taken_fine : (given given' : GivenByLines) → HasTaken said None given → rule_of given line ≡ None
      → given' ≡ given_with given line → HasTaken (said ++ line ∷ []) None given'
  taken_fine given given' (is, fine) none more =
      let passes : rule_of (given_by said) line ≡ None = ap (λ g. rule_of g line) (sym is) ∙ none in (
        more ∙ ap (λ g. given_with g line) is ∙ sym (given_by-more said line passes),
        fine-more said line fine passes,
      )

-- ---- a line that ends
all_of_them : (before line rest : List ℕ) → before ++ line ++ 10 ∷ [] ++ rest ≡ before ++ (line ++ 10 ∷ rest)
all_of_them before line rest =
    append_assoc (before ++ line) (10 ∷ []) rest ∙ append_assoc before line (10 ∷ rest)

feed_ascii : IsAscii (10 ∷ [])
feed_ascii zero = lit< tt
feed_ascii (suc i) = lit< tt

feed_utf8 : IsUtf8 (10 ∷ [])
feed_utf8 = IsUtf8-from_ascii (10 ∷ []) feed_ascii

module _ (old new : TakenLines) (before line : List ℕ) (lines : List (List ℕ)) (ended : HasEnded old before lines)
    (takes : TakesLine old new line) (alone : OnOneLine line) where
  -- which bytes behind these are UTF-8, if the line is not
  other_behind : (rest : List ℕ) → (IsUtf8 rest → IsUtf8 line) → ((old.is_text ≡ false) ⊎ ¬ IsUtf8 line)
      → IsUtf8 (before ++ rest) → ⊥
  other_behind rest part why whole = by old.is_text refl
    where
      by : (is_text : Bool) → old.is_text ≡ is_text → ⊥
      by false is = ended.other is rest whole
      by true is =
          ⊎_elim (λ (unset : old.is_text ≡ false). false≢true (sym unset ∙ is))
          (λ (other : ¬ IsUtf8 line). other (part (utf8_behind before rest (ended.utf8 is) whole))) why

  more_said : new.is_text ≡ true → HasTaken (map said_of (lines ++ line ∷ [])) new.first (given_to new.plan)
  more_said is =
      subst (λ (said : List (Option LineContent)). HasTaken said new.first (given_to new.plan))
      (sym (map-append said_of lines (line ∷ [])))
      (takes.kept is (map said_of lines) (length-map lines said_of ∙ sym ended.counted)
      (ended.kept (takes.utf8 is).0))

  pub line_ends : HasEnded new (before ++ line ++ 10 ∷ []) (lines ++ line ∷ [])
  line_ends = record {
    whole = λ rest. ap lines_of (all_of_them before line rest) ∙ ended.whole (line ++ 10 ∷ rest)
        ∙ ap (λ l. lines ++ l) (line_ended line rest alone) ∙ sym (append_assoc lines (line ∷ []) (lines_of rest));
    utf8 = λ is. IsUtf8-append (before ++ line) (10 ∷ [])
        (IsUtf8-append before line (ended.utf8 (takes.utf8 is).0) (takes.utf8 is).1) feed_utf8;
    other = λ is rest whole. other_behind (line ++ 10 ∷ rest) (utf8_line line rest) (takes.other is)
        (subst IsUtf8 (all_of_them before line rest) whole);
    counted = takes.counted ∙ omega (arith, ended.counted, length-append lines (line ∷ []));
    kept = more_said;
  }

  -- the last one, which has not ended
  pub line_stops : (length line ≡ 0 → ⊥) → IsTaken new (before ++ line)
  line_stops some = record {
    utf8 = λ is. IsUtf8-append before line (ended.utf8 (takes.utf8 is).0) (takes.utf8 is).1;
    other = λ is whole. other_behind line (λ u. u) (takes.other is) whole;
    kept = λ is. subst (λ (all : List (List ℕ)). HasTaken (map said_of all) new.first (given_to new.plan))
        (sym (ended.whole line ∙ ap (λ l. lines ++ l) (line_left line alone some))) (more_said is);
  }

-- where none is left
pub no_line_stops : (taken : TakenLines) (before : List ℕ) (lines : List (List ℕ)) → HasEnded taken before lines
    → IsTaken taken before
no_line_stops taken before lines ended =
    let all : lines_of before ≡ lines =
    ap lines_of (sym (append-nil before)) ∙ ended.whole [] ∙ append-nil lines in
    record {
      utf8 = ended.utf8;
      other = λ is whole. ended.other is [] (subst IsUtf8 (sym (append-nil before)) whole);
      kept = λ is. subst (λ (all : List (List ℕ)). HasTaken (map said_of all) taken.first (given_to taken.plan)) (sym all)
          (ended.kept is);
    }

-- ---- what has been read
pub begun_anew : (taken : TakenLines) (line : Vec ℕ Global) → HasTaken [] taken.first (given_to taken.plan)
    → taken.is_text ≡ true → taken.count ≡ 0 → line.items ≡ []
    → HasRead (record { taken = taken; line = line }) []
begun_anew taken line said is none empty = record {
  before = [];
  lines = [];
  ended = record {
    whole = λ rest. refl;
    utf8 = λ _. IsUtf8-nil;
    other = λ unset rest whole. false≢true (sym unset ∙ is);
    counted = none;
    kept = λ _. said;
  };
  begun = sym empty;
  alone = subst OnOneLine (sym empty) (All-nil (λ byte. (byte == 10) ≡ false));
}

-- a line feed more, and another byte more
pub feed_read : (file : PlanFile) (taken : TakenLines) (line : Vec ℕ Global) (text : List ℕ) (byte : ℕ) → byte ≡ 10
    → HasRead file text → TakesLine file.taken taken file.line.items → line.items ≡ []
    → HasRead (record { taken = taken; line = line }) (text ++ byte ∷ [])
feed_read file taken line text byte is read takes empty = record {
  before = read.before ++ file.line.items ++ 10 ∷ [];
  lines = read.lines ++ file.line.items ∷ [];
  ended = line_ends file.taken taken read.before file.line.items read.lines read.ended takes read.alone;
  begun =
      ap (λ b. text ++ b ∷ []) is ∙ ap (λ t. t ++ 10 ∷ []) read.begun
      ∙ sym (append-nil (read.before ++ file.line.items ++ 10 ∷ []))
      ∙ ap (λ l. read.before ++ file.line.items ++ 10 ∷ [] ++ l) (sym empty);
  alone = subst OnOneLine (sym empty) (All-nil (λ byte. (byte == 10) ≡ false));
}

pub byte_read : (file : PlanFile) (line : Vec ℕ Global) (text : List ℕ) (byte : ℕ) → (byte ≡ 10 → ⊥)
    → HasRead file text → line.items ≡ file.line.items ++ byte ∷ []
    → HasRead (record { taken = file.taken; line = line }) (text ++ byte ∷ [])
byte_read file line text byte other read more = record {
  before = read.before;
  lines = read.lines;
  ended = read.ended;
  begun = ap (λ t. t ++ byte ∷ []) read.begun ∙ append_assoc read.before file.line.items (byte ∷ [])
      ∙ ap (λ l. read.before ++ l) (sym more);
  alone = subst OnOneLine (sym more)
      (All-append (λ b. (b == 10) ≡ false) file.line.items (byte ∷ []) read.alone
      (All-cons (λ b. (b == 10) ≡ false) byte [] (ne_eqb byte 10 other) (All-nil (λ b. (b == 10) ≡ false))));
}

-- the last line, where something of it has come, and where nothing has
pub last_taken : (file : PlanFile) (taken : TakenLines) (text : List ℕ) → HasRead file text
    → TakesLine file.taken taken file.line.items → (length file.line.items ≡ 0 → ⊥) → IsTaken taken text
last_taken file taken text read takes some =
    subst (IsTaken taken) (sym read.begun)
    (line_stops file.taken taken read.before file.line.items read.lines read.ended takes read.alone some)

pub none_left : (file : PlanFile) (text : List ℕ) → HasRead file text → length file.line.items ≡ 0
    → IsTaken file.taken text
none_left file text read none =
    subst (IsTaken file.taken)
    (sym (read.begun ∙ ap (λ l. read.before ++ l) (nil_from_length file.line.items none) ∙ append-nil read.before))
    (no_line_stops file.taken read.before read.lines read.ended)

-- ---- the line that was taken
module _ (said : List (Option LineContent)) (line : Option LineContent) (first : Option LineFault)
    (given : GivenByLines) (taken : HasTaken said first given) where
  pub still_faulty : (given' : GivenByLines) → (first ≡ None → ⊥) → HasTaken (said ++ line ∷ []) first given'
  still_faulty given' some = by first taken some
    where
      by : (first : Option LineFault) → HasTaken said first given → (first ≡ None → ⊥)
          → HasTaken (said ++ line ∷ []) first given'
      by None taken some = absurd (some refl)
      by (Some fault) taken some = taken_behind said line fault given given' taken

  pub still_fine : (given' : GivenByLines) → first ≡ None → rule_of given line ≡ None
      → given' ≡ given_with given line → HasTaken (said ++ line ∷ []) first given'
  still_fine given' none passes more =
      subst (λ (f : Option LineFault). HasTaken (said ++ line ∷ []) f given') (sym none)
      (taken_fine said line given given' (subst (λ (f : Option LineFault). HasTaken said f given) none taken) passes more)

  pub now_faulty : (fault : LineFault) (given' : GivenByLines) → first ≡ None → rule_of given line ≡ Some fault.rule
      → fault.line ≡ length said + 1 → HasTaken (said ++ line ∷ []) (Some fault) given'
  now_faulty fault given' none broken number =
      taken_faulty said line fault given given' (subst (λ (f : Option LineFault). HasTaken said f given) none taken)
      broken number

-- whether a line was faulty, as `is_some` tells
pub first_told : (first : Option LineFault) (told : Bool) → told ≡ is_some first → told ≡ true → first ≡ None → ⊥
first_told first told is set none = false≢true (sym (ap is_some none) ∙ sym is ∙ set)

pub no_first : (first : Option LineFault) (told : Bool) → told ≡ is_some first → told ≡ false → first ≡ None
no_first None told is unset = refl
no_first (Some fault) told is unset = absurd (false≢true (sym unset ∙ is))

-- whether something is left, as `is_empty` tells
pub some_left : (n : ℕ) (told : Bool) → told ≡ (n == 0) → told ≡ false → n ≡ 0 → ⊥
some_left n told is unset none = false≢true (sym unset ∙ is ∙ eq-eqb n 0 none)

pub nothing_left : (n : ℕ) (told : Bool) → told ≡ (n == 0) → told ≡ true → n ≡ 0
nothing_left n told is set = grind (arith, nat_tests, is, set)

-- ---- the answer
pub record IsFine (taken : TakenLines) (text : List ℕ) : Type 0 where
  pub planned : Planned (said_in text)
  pub given : given_to taken.plan ≡ given_by (said_in text)

planned_on : (front rest : List (Option LineContent)) → Planned front → AreFine (front ++ rest)
    → Planned (front ++ rest)
planned_on front [] planned fine = subst Planned (sym (append-nil front)) planned
planned_on front (line ∷ rest) planned fine =
    let all : front ++ line ∷ rest ≡ front ++ line ∷ [] ++ rest = sym (append_assoc front (line ∷ []) rest) in
    subst Planned (sym all)
    (planned_on (front ++ line ∷ []) rest (planned-more front line planned (fine front rest line refl))
    (subst AreFine all fine))

pub fine_in : (taken : TakenLines) (text : List ℕ) → IsTaken taken text → taken.is_text ≡ true → taken.first ≡ None
    → IsFine taken text
fine_in taken text all is none =
    let kept = subst (λ (f : Option LineFault). HasTaken (said_in text) f (given_to taken.plan)) none (all.kept is) in
    record { planned = planned_on [] (said_in text) planned-none kept.1; given = kept.0 }

pub faulty_in : (taken : TakenLines) (text : List ℕ) (fault : LineFault) → IsTaken taken text → taken.is_text ≡ true
    → taken.first ≡ Some fault → IsFault text fault.rule fault.line
faulty_in taken text fault all is some =
    let kept = subst (λ (f : Option LineFault). HasTaken (said_in text) f (given_to taken.plan)) some (all.kept is) in
    subst (λ n. IsFault text fault.rule n) (sym kept.6)
    (of_line kept.0 kept.1 kept.2 fault.rule kept.3 kept.4 kept.5)
