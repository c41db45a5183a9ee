use Rattle.std.proofs.Common.{◌≡◌, ℕ, ◌+◌, ◌∷◌, ◌++◌, List, [], Err, Ok, Result, ap, append-nil, map, refl, rules, sym}
use Rattle.std.proofs.Common.{◌∙◌}
use Rattle.std.specs.Borrow.{Bor}
use Rattle.std.specs.Option.{option_map}
use Rattle.std.proofs.lemmas.List.{map-append}
use Rattle.image_reports.specs.vectors.Lines.{NamedVector}
use Rattle.image_reports.specs.vectors.Views.{named}
use Rattle.image_reports.specs.declared.vectors.fault.VectorsFault.{VectorsFault}
use Rattle.image_reports.specs.declared.vectors.fault.VectorsFault.TheVariants.{Line, Memory}
use Rattle.image_reports.specs.declared.vectors.lines.Vector.{Vector}
use Rattle.image_reports.proofs.vectors_lemmas.ReadLemmas.{behind, behind-none, left, left-end, left-formless}
use Rattle.image_reports.proofs.vectors_lemmas.ReadLemmas.{left-nothing, left-vector}
use Rattle.image_reports.proofs.vectors.reading.vectors_of.Goals as goal

-- a line that is not there
abbrev no_line : Bor (List ℕ)
no_line = record { ref_ptr = (0, 0); now = [] }

-- a line that is named twice is one
same_line : {A : Type 0} (said : Result A VectorsFault) (one other : ℕ) → said ≡ Err (Line one)
    → said ≡ Err (Line other) → one ≡ other
same_line said one other is also = cc

-- want of memory names no line
memory_is_no_line : {A : Type 0} (said : Result A VectorsFault) (line : ℕ) → said ≡ Err Memory → said ≡ Err (Line line)
    → ⊥
memory_is_no_line said line is also = cc

pub loop-index-init : goal.loop-index-init
loop-index-init c =
    sym (behind-none (left (λ line. line.now) c.args.lines.now 0))
    ∙ ap (λ (vectors : List Vector). behind (map named vectors) (left (λ line. line.now) c.args.lines.now 0))
    (sym c.new-vectors.ensures.items)

pub loop-index-preserved-then-says_nothing : goal.loop-index-preserved-then-says_nothing
loop-index-preserved-then-says_nothing c =
    let l = c.loop-index in
    l.invariant
    ∙ ap (behind (map named l.vectors.items))
    (left-nothing (λ line. line.now) c.args.lines.now [] l.index no_line c.loop-index-test.true
    (sym c.says_nothing.ensures ∙ c.if-says_nothing.true))

pub loop-index-preserved : goal.loop-index-preserved
loop-index-preserved c =
    let l = c.loop-index in
    let vector = c.in-Some.vector in
    let front = map named l.vectors.items in
    let more : map named c.push.new.self.items ≡ front ++ named vector ∷ [] =
    ap (map named) c.in_ok-push-in-Some.ensures.items ∙ map-append named l.vectors.items (vector ∷ []) in
    l.invariant
    ∙ left-vector (λ line. line.now) c.args.lines.now front l.index no_line c.loop-index-test.true (named vector)
    (sym c.says_nothing.ensures ∙ c.if-says_nothing.false)
    (sym (ap (option_map named) c.in-Some.is) ∙ c.in_ok-vector.ensures)
    ∙ ap (λ (vectors : List NamedVector). behind vectors (left (λ line. line.now) c.args.lines.now (l.index + 1)))
    (sym more)

pub returns-in_err-vector-clause-fault : goal.returns-in_err-vector-clause-fault
returns-in_err-vector-clause-fault c = λ line said.
    let memory : c.from_residual.result ≡ Err Memory = search rules in
    absurd (memory_is_no_line c.from_residual.result line memory said)

pub returns-in_err-push-in-Some-clause-fault : goal.returns-in_err-push-in-Some-clause-fault
returns-in_err-push-in-Some-clause-fault c = λ line said.
    let memory : c.from_residual-in_err-push-in-Some.result ≡ Err Memory = search rules in
    absurd (memory_is_no_line c.from_residual-in_err-push-in-Some.result line memory said)

pub returns-in-None-clause-fault : goal.returns-in-None-clause-fault
returns-in-None-clause-fault c = λ line said.
    let l = c.loop-index in
    l.invariant
    ∙ left-formless (λ line. line.now) c.args.lines.now (map named l.vectors.items) l.index no_line
    c.loop-index-test.true (sym c.says_nothing.ensures ∙ c.if-says_nothing.false)
    (sym (ap (option_map named) c.in-None.is) ∙ c.in_ok-vector.ensures)
    ∙ ap Err (same_line (Err (Line (l.index + 1))) (l.index + 1) line refl said)

pub returns-clause-vectors : goal.returns-clause-vectors
returns-clause-vectors c =
    let l = c.loop-index in
    l.invariant
    ∙ ap (behind (map named l.vectors.items))
    (left-end (λ line. line.now) c.args.lines.now l.index c.loop-index-test.false)
    ∙ ap Ok (append-nil (map named l.vectors.items))
