use Rattle.std.proofs.Common.{◌≡◌, ◌++◌, ℕ, List, append_assoc, codes}
use Rattle.std.proofs.lemmas.Result.{on_ok_weaker}
use Rattle.std.specs.Fmt.{decimal}
use Rattle.std.specs.String.{string_bytes}
use Rattle.image_reports.specs.source_places.Placed.{numbered_of}
use Rattle.image_reports.specs.source_statistics.SourceText.{most_line}
use Rattle.image_reports.proofs.source_statistics.sizes.push_costs.Goals as goal

-- three parts behind two numbers, each of which stands behind its name
together : (old bodies number declared other end nodes bytes work one two three four : List ℕ)
    → one ≡ old ++ (bodies ++ (number ++ (declared ++ (other ++ end)))) → two ≡ one ++ nodes → three ≡ two ++ bytes
    → four ≡ three ++ work
    → four ≡ old ++ (bodies ++ (number ++ (declared ++ (other ++ (end ++ (nodes ++ (bytes ++ work)))))))
together old bodies number declared other end nodes bytes work one two three four first second third last =
    rw (last, third, second, first) (simp append_assoc)

pub returns : goal.returns
returns c =
    let sizes = c.args.sizes in
    let libraries = numbered_of c.args.libraries.now in
    on_ok_weaker c.push_share-3.result
    (together (string_bytes c.args.text.now) (codes "bodies ") (decimal sizes.bodies.whole) (codes "\ndeclared_bytes ")
    (decimal sizes.declared_bytes.whole) (codes "\n") (most_line libraries (codes "nodes") sizes.nodes.largest)
    (most_line libraries (codes "declared_bytes") sizes.declared_bytes.largest)
    (most_line libraries (codes "work") c.args.work.largest) (string_bytes c.writeln.new.self)
    (string_bytes c.push_share.new.text) (string_bytes c.push_share-2.new.text) (string_bytes c.push_share-3.new.text)
    c.in_ok-writeln.ensures.bytes c.in_ok-push_share.ensures c.in_ok-push_share-2.ensures)
    c.push_share-3.ensures
