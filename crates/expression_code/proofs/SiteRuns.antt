-- The law of expressions: the code of one, at a site.
use Rattle.std.proofs.Common.{◌≡◌, ℕ, ◌+◌, ◌<◌, List, [], Some, refl, sym, ap, arith, append-nil, false, nat_lt}
use Rattle.expression_code.proofs.Below.{TermHasType, InRegister, InSlot, IsComputed, IsSiteOf, Location}
use Rattle.expression_code.proofs.Below.{ltb-false, ltb-true, Observation, operand, Path, path_in, Site}
use Rattle.expression_code.proofs.Below.{slot_of, State, StraightState, TermTree, types_of, value_in}
use Rattle.expression_code.proofs.Below.{Values, word_in, WordType, ends_on}
use Rattle.expression_code.specs.Computed.{temporary_in}
use Rattle.std.proofs.lemmas.Bool.{cond_both}
use Rattle.expression_code.proofs.Fitting.{fits_kinds}
use Rattle.expression_code.proofs.Frame.{frame_kept, Setting, seen_by}
use Rattle.expression_code.proofs.WorkRegisters.{works_in, lower_stays}
use Rattle.expression_code.proofs.Values.{Ready, Kept, Leaves, Holds, homes_left, kept_number}
use Rattle.expression_code.proofs.ExpressionRuns.{expr_runs}
use Rattle.expression_code.proofs.program_logic_lemmas.StepLaws.{leads_alone}

-- no control value and no loop
abbrev setting_of : (e : TermTree) (site : Site) → IsSiteOf e site → Setting
setting_of e site fit = record {
  code = site.code;
  frame = site.frame;
  size = site.size;
  counts = [];
  declared = site.layout.declared;
  laid = site.layout.declared;
  controls = 0;
  depths = 0;
  allocation = site.layout.allocation;
  allocated = fit.allocated;
  as_many = refl;
  lies = λ x d is away. is;
  even = fit.even;
  ends = fit.ends;
  room = omega arith;
}

abbrev state_of : Values → StraightState
state_of m = record { variables = m; controls = λ c. false }

module _ (e : TermTree) (site : Site) (fit : IsSiteOf e site) where
  -- what a location holds, as it is read
  read : (l : Location) (v : ℕ) (t : State) → Holds (setting_of e site fit) l t v → word_in site t l ≡ Some v
  read (InRegister r) v t there = ap Some there
  read (InSlot o) v t there = there

  -- and that it is the same where lower places are kept
  stays : (place top : ℕ) (s t : State) → place < top
      → Kept (setting_of e site fit) (slot_of site.layout.allocation.count site.layout.free top) s t
      → Leaves (works_in site.layout.allocation.count top) s t
      → temporary_in site t place ≡ temporary_in site s place
  stays place top s t less kept lower =
      cond_both (nat_lt place site.layout.allocation.count) (InRegister (5 + place))
      (InSlot (slot_of site.layout.allocation.count site.layout.free place)) (λ l. word_in site t l ≡ word_in site s l)
      (λ h. ap Some
      (lower (5 + place) (lower_stays site.layout.allocation.count top place less
      (ltb-true place site.layout.allocation.count h) fit.allocated.few)))
      (λ h. kept_number (setting_of e site fit) (slot_of site.layout.allocation.count site.layout.free top) s t kept 4
      (slot_of site.layout.allocation.count site.layout.free place)
      (omega (arith, less, ltb-false place site.layout.allocation.count h)))

pub expressions_are_computed : (e : TermTree) (word : WordType) (site : Site)
    → TermHasType (types_of site.code.profile site.layout.declared) e word → IsSiteOf e site → IsComputed e site
expressions_are_computed e word site has fit =
    let z = setting_of e site fit in
    let piece = (expr_runs z site.layout.free fit.aligned (omega arith) has site.place fit.room).placed_at
    site.start fit.placed in
    record {
      shown = λ path. (piece.leak path).0;
      runs = λ m s at there fine.
          let path = seen_by z (path_in m e) in
          let ready : Ready z (state_of m) s = record {
            held = assumption;
            fits = fits_kinds (types_of site.code.profile site.layout.declared) m there.fits;
            homes_there = there.homes_there;
            variables_there = there.variables_there;
            controls_there = λ c below read. absurd (omega arith);
            mirrors_there = there.mirrors_there;
          } in
          let run = ends_on (piece.runs (state_of m) s [] at fine ready) (sym (append-nil path)) in
          let same : run.seen ≡ (piece.leak path).0 = sym (ap (λ (r : List Observation × Path). r.0) run.shown) in
          record {
            step_count = run.step_count;
            end = run.end;
            leads = rw same at (leads_alone run.leads);
            few = run.within;
            inside = rw same at (frame_kept z run.leads).1;
            behind = run.at;
            value = read e site fit (operand site.layout site.place e) (value_in m e) run.end
                run.done.there;
            homes = λ x home is. homes_left z site.place s run.end run.done.lower home
                (fit.allocated.allowed x home is);
            lower = λ place less. stays e site fit place site.place s run.end less run.done.kept run.done.lower;
            base = run.done.held.base;
            kept = λ o below. run.done.kept o (omega arith);
          };
    }
