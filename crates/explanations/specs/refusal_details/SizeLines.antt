-- What is said of a size above its limit: how much the export has, how much is allowed, and where the part stands
-- that has most.
use Rattle.std.specs.Prelude.{ℕ, nat_lt, List, [], ◌++◌, codes, Option, None, Some, if◌then◌else◌}
use Rattle.std.specs.Fmt.{decimal}
use Rattle.intervals.specs.Limits.{most_work}
use Rattle.language.specs.Limits.{most_bodies, most_declared_bytes, most_nodes}
use Rattle.explanations.specs.Below.{Bodies, most_counted, Nodes, place_text, Share, Work}
use Rattle.language.specs.declared.why.Counted.{Counted}
use Rattle.language.specs.declared.why.Counted.TheVariants.{DeclaredBytes}
use Rattle.language.specs.declared.why.Excess.{Excess}

-- what stands behind a count: the greatest number stands for those above it too
abbrev pub or_more : ℕ → List ℕ
or_more n = if nat_lt n most_counted then [] else codes " or more"

-- a part that has so many; of those that have more than can be counted it may not be the largest
abbrev pub part_head : ℕ → List ℕ
part_head n = if nat_lt n most_counted then codes "; its largest part is at " else codes "; a part of it is at "

abbrev pub share_text : Option Share → List ℕ
share_text None = []
share_text (Some s) = part_head s.count ++ (place_text s.place ++ (codes ": " ++ (decimal s.count ++ or_more s.count)))

-- S1, S2: a size, of which so much is allowed
abbrev pub size_line : List ℕ → ℕ → Excess → List ℕ
size_line things most e =
    codes "  the export has " ++ (decimal e.whole ++ (or_more e.whole ++ (codes " " ++ (things
    ++ (codes ", and at most " ++ (decimal most
    ++ (codes " are allowed" ++ (share_text e.largest ++ codes "\n"))))))))

-- S3: the work
abbrev pub work_line : Excess → List ℕ
work_line e =
    codes "  the export's work is " ++ (decimal e.whole ++ (or_more e.whole
    ++ (codes ", and at most " ++ (decimal most_work
    ++ (codes " is allowed" ++ (share_text e.largest ++ codes "\n"))))))

-- by what is counted
abbrev pub counted_line : Counted → Excess → List ℕ
counted_line Nodes e = size_line (codes "nodes") most_nodes e
counted_line Bodies e = size_line (codes "bodies open at once") most_bodies e
counted_line DeclaredBytes e = size_line (codes "declared bytes") most_declared_bytes e
counted_line Work e = work_line e

abbrev pub excess_line : Excess → List ℕ
excess_line e = counted_line e.counted e
