-- What the mirrors of a program's variables would save: for each element that is reached by a variable, or by a sum of
-- it and a number, the instructions of its address, and for each time that the variable changes as many are spent. Each
-- counts 8 to the number of loops around it.
use Rattle.std.specs.Prelude.{ℕ, zero, suc, ◌+◌, ◌-◌, ◌*◌, ◌^◌, ◌==◌, ◌&&◌, List, [], ◌∷◌, Option, None, Some, length}
use Rattle.std.specs.Prelude.{min, nat_le, replicate, slice_index, if◌then◌else◌}
use Rattle.codegen.specs.Below.{array, binary, branch, convert, element, element_bytes, first, FlatVariable, Kind}
use Rattle.codegen.specs.Below.{nothing, number, prefix, put, repeats, rotate, select, set, StraightBlock}
use Rattle.codegen.specs.Below.{StraightProgram, StraightTree, take, TermTree, truth, Uint16, Uint32, Uint8, used}
use Rattle.codegen.specs.Below.{variable, weight_inside}
use Rattle.codegen.specs.private.Uses.{used_within, word_weights_of}
use Rattle.expression_code.specs.TermCode.{kind_at}

-- the variable that an index follows
abbrev pub followed : TermTree → Option ℕ
followed (variable y) = Some y
followed (binary source operator width (variable y) (number value kind)) = Some y
followed index = None

-- Elements of arrays of these variables, of so many bytes each.
module _ (declared : List FlatVariable) (bytes : ℕ) where
  -- an access to an element of the array x
  abbrev pub reached : ℕ → ℕ → TermTree → List ℕ → List ℕ
  reached weight x index counts =
      if element_bytes (kind_at declared x) == bytes then used_within weight (followed index) counts else counts

  -- those in an expression
  abbrev pub reached_in : ℕ → TermTree → List ℕ → List ℕ
  reached_in weight (number value kind) counts = counts
  reached_in weight (truth value) counts = counts
  reached_in weight (variable x) counts = counts
  reached_in weight (prefix operator width e) counts = reached_in weight e counts
  reached_in weight (binary place operator width left right) counts =
      reached_in weight right (reached_in weight left counts)
  reached_in weight (rotate width e amount) counts = reached_in weight e counts
  reached_in weight (convert kind e) counts = reached_in weight e counts
  reached_in weight (select condition accepted otherwise) counts =
      reached_in weight otherwise (reached_in weight accepted (reached_in weight condition counts))
  reached_in weight (element place x size index) counts =
      reached_in weight index (reached weight x index counts)

  abbrev pub reached_in_terms : ℕ → List TermTree → List ℕ → List ℕ
  reached_in_terms weight [] counts = counts
  reached_in_terms weight (e ∷ es) counts = reached_in_terms weight es (reached_in weight e counts)

  abbrev mutual
    -- those of a statement
    pub reached_by : ℕ → StraightTree → List ℕ → List ℕ
    reached_by weight (set within x value) counts = reached_in weight value counts
    reached_by weight (array x size values) counts = reached_in_terms weight values counts
    reached_by weight (put within place x size index value) counts =
        reached_in weight value (reached_in weight index (reached weight x index counts))
    reached_by weight (take control within condition) counts = reached_in weight condition counts
    reached_by weight (branch condition accepted otherwise) counts =
        reached_by_all weight otherwise (reached_by_all weight accepted (reached_in weight condition counts))
    reached_by weight (repeats x low high body) counts =
        reached_by_all (weight_inside weight) body (reached_in weight high (reached_in weight low counts))

    pub reached_by_all : ℕ → StraightBlock → List ℕ → List ℕ
    reached_by_all weight nothing counts = counts
    reached_by_all weight (first statement rest) counts =
        reached_by_all weight rest (reached_by weight statement counts)

-- Changes of variables.

abbrev mutual
  pub changed_by : ℕ → StraightTree → List ℕ → List ℕ
  changed_by weight (set within x value) counts = used weight x counts
  changed_by weight (array x size values) counts = counts
  changed_by weight (put within place x size index value) counts = counts
  changed_by weight (take control within condition) counts = counts
  changed_by weight (branch condition accepted otherwise) counts =
      changed_by_all weight otherwise (changed_by_all weight accepted counts)
  changed_by weight (repeats x low high body) counts =
      changed_by_all (weight_inside weight) body (used (weight_inside weight) x (used weight x counts))

  pub changed_by_all : ℕ → StraightBlock → List ℕ → List ℕ
  changed_by_all weight nothing counts = counts
  changed_by_all weight (first statement rest) counts = changed_by_all weight rest (changed_by weight statement counts)

-- how often elements of so many bytes are reached by each variable
abbrev pub reached_of : StraightProgram → ℕ → List ℕ
reached_of p bytes = reached_by_all p.declared bytes 1 p.body (replicate (length p.declared) 0)

-- of each variable, by its number, how often it reaches elements of one, of two and of four bytes, and how often it
-- changes
pub record Uses : Type 0 where
  pub ones : List ℕ
  pub twos : List ℕ
  pub fours : List ℕ
  pub changes : List ℕ

abbrev pub uses_of : StraightProgram → Uses
uses_of p = record {
  ones = reached_of p 1;
  twos = reached_of p 2;
  fours = reached_of p 4;
  changes = changed_by_all 1 p.body (replicate (length p.declared) 0);
}

-- for which elements a mirror is, by how often those of one, two and four bytes are reached
abbrev pub kind_for : ℕ → ℕ → ℕ → Kind
kind_for one two four =
    if nat_le one four && nat_le two four then Uint32 else if nat_le one two then Uint16 else Uint8

abbrev pub mirror_kind : Uses → ℕ → Kind
mirror_kind uses x = kind_for (slice_index uses.ones x) (slice_index uses.twos x) (slice_index uses.fours x)

-- the instructions that accesses save and changes take: one for elements of a byte, and two for others
abbrev pub saved : Kind → ℕ → ℕ → ℕ → ℕ → ℕ
saved Uint32 one two four change = min (2 * (four - change)) (2 ^ 64 - 1)
saved Uint16 one two four change = min (2 * (two - change)) (2 ^ 64 - 1)
saved kind one two four change = one - change

-- what the mirror of a variable would save
abbrev pub mirror_weight : Uses → ℕ → ℕ
mirror_weight uses x =
    saved (mirror_kind uses x) (slice_index uses.ones x) (slice_index uses.twos x) (slice_index uses.fours x)
    (slice_index uses.changes x)

-- those of the variable x and of those behind it, so many, each no more than its variable weighs among these words: so
-- the variable comes first
abbrev pub mirror_weights_from : Uses → List ℕ → ℕ → ℕ → List ℕ
mirror_weights_from uses words x zero = []
mirror_weights_from uses words x (suc count) =
    min (mirror_weight uses x) (slice_index words x) ∷ mirror_weights_from uses words (x + 1) count

abbrev pub mirror_weights_of : StraightProgram → List ℕ
mirror_weights_of p = mirror_weights_from (uses_of p) (word_weights_of p) 0 (length p.declared)
