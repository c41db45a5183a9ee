-- The tokens around a place of a source, by their spelling; no bytes where there is none.
use Rattle.std.specs.Prelude.{ℕ, nat_lt, nat_eq, Bool, ◌&&◌, ◌||◌, if◌then◌else◌, List, [], length, codes}
use Rattle.std.specs.List.{filter, fold}
use Rattle.std.specs.Str.{bytes_eq}
use Rattle.tokens.specs.Lexeme.{Lexeme}
use Rattle.explanations.specs.declared.habits.spots.Region.{Region}
use Rattle.explanations.specs.declared.habits.spots.Region.TheVariants.{Outside, Body, Brackets}
use Rattle.explanations.specs.declared.habits.spots.Spot.{Spot as CodeSpot}

pub record Spot : Type 0 where
  -- the first token of the statement that the token before the place belongs to
  pub start : List ℕ
  pub second : List ℕ
  pub before : List ℕ
  pub here : List ℕ
  pub next : List ℕ
  pub region : Region

abbrev pub spot_of : CodeSpot → Spot
spot_of s = record {
  start = s.start.now;
  second = s.second.now;
  before = s.before.now;
  here = s.here.now;
  next = s.next.now;
  region = s.region;
}

-- a statement ends with this token, or begins after it, or after nothing
abbrev pub ends_statement : List ℕ → Bool
ends_statement text =
    bytes_eq text [] || (bytes_eq text (codes ";") || (bytes_eq text (codes "{") || bytes_eq text (codes "}")))

-- how often a token stands before a place
abbrev pub is_before : ℕ → List ℕ → Lexeme → Bool
is_before at word t = nat_lt t.place.offset at && bytes_eq t.text word

abbrev pub count_before : ℕ → List ℕ → List Lexeme → ℕ
count_before at word tokens = length (filter (is_before at word) tokens)

-- a place is in round brackets, or in a body, where more are open before it than closed; or outside procedures
abbrev pub region_at : ℕ → List Lexeme → Region
region_at at tokens =
    if nat_eq (count_before at (codes "(") tokens) (count_before at (codes ")") tokens)
    then (if nat_eq (count_before at (codes "{") tokens) (count_before at (codes "}") tokens)
    then Outside else Body)
    else Brackets

-- what a token adds, the next one in the order of the source: tokens before the place move on, and of the others the
-- first stands there and the second is next
abbrev pub passed : Spot → List ℕ → Spot
passed s text = record {
  start = (if ends_statement s.before then text else s.start);
  second = s.before;
  before = text;
  here = s.here;
  next = s.next;
  region = s.region;
}

abbrev pub reached : Spot → List ℕ → Spot
reached s text =
    if bytes_eq s.here []
    then record {
      start = s.start;
      second = s.second;
      before = s.before;
      here = text;
      next = s.next;
      region = s.region;
    }
    else (if bytes_eq s.next []
    then record {
      start = s.start;
      second = s.second;
      before = s.before;
      here = s.here;
      next = text;
      region = s.region;
    }
    else s)

abbrev pub after_token : ℕ → Spot → Lexeme → Spot
after_token at s t = if nat_lt t.place.offset at then passed s t.text else reached s t.text

abbrev pub nowhere : Region → Spot
nowhere where_it_is =
    record { start = []; second = []; before = []; here = []; next = []; region = where_it_is }

-- the tokens around the place behind so many bytes
abbrev pub spot_around : ℕ → List Lexeme → Spot
spot_around at tokens = fold (after_token at) (nowhere (region_at at tokens)) tokens

-- the first token of the statement that the place is in; a statement may begin there
abbrev pub statement_start : Spot → List ℕ
statement_start s = if ends_statement s.before then s.here else s.start
