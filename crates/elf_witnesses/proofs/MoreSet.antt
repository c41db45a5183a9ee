-- Requests with more that is set.
use Rattle.std.proofs.Common.{◌≡◌, ℕ, ◌+◌, ◌∙◌, Bool, true, false, cond, List, [], ◌∷◌, ◌++◌, length, Option, None}
use Rattle.std.proofs.Common.{Some, append-nil, refl, sym, ap, rules}
use Rattle.std.specs.Prelude.{is_some, nat_le}
use Rattle.std.specs.List.{list_any}
use Rattle.elf_runs.specs.Needs.{argument_needs, each_from, first_unmet, function_needs, Need, needs, secret_needs}
use Rattle.elf_runs.specs.Needs.{setting_needs, stack_needs}
use Rattle.elf_memory.specs.Objects.{in_memory, lies_in, object_of, size_of}
use Rattle.elf_runs.proofs.Meeting.{held_before, met_behind, split}
use Rattle.elf_memory.specs.declared.asked.Asked.{Asked}
use Rattle.elf_witnesses.specs.Below.{Executable, LoadedSegment, Object, object_named, Profile}
use Rattle.elf_memory.specs.declared.asked.Secret.{Secret}
use Rattle.elf_memory.specs.declared.asked.Setting.{Setting}
use Rattle.elf_runs.specs.Loading.{machine_program, state_at_start}
use Rattle.elf_witnesses.specs.Witnessed.{secret_size, set_size, SetEachSecret, SetsBesides}

-- Needs of parts.

met_front : (front back : List Need) → first_unmet (front ++ back) ≡ None → first_unmet front ≡ None
met_front [] back h = refl
met_front (one ∷ others) back h =
    let now = split one.holds (record { rule = one.rule; part = one.part }) (first_unmet (others ++ back)) h in
    rw now.0 (met_front others back now.1)

each_met : {A : Type 0} (wants : ℕ → A → List Need) (k : ℕ) (items more : List A)
    → first_unmet (each_from wants k items) ≡ None → ((j : ℕ) → first_unmet (each_from wants j more) ≡ None)
    → first_unmet (each_from wants k (items ++ more)) ≡ None
each_met wants k [] more h others = others k
each_met wants k (x ∷ items) more h others =
    let here = met_front (wants k x) (each_from wants (k + 1) items) h in
    let rest = met_behind (wants k x) (each_from wants (k + 1) items) h in
    held_before (wants k x) (each_from wants (k + 1) (items ++ more)) here ∙ each_met wants (k + 1) items more rest others

-- What is set of each secret.

in_memory_size : (segments : List LoadedSegment) (object : Option Object)
    → is_some (in_memory segments object) ≡ true → size_of (in_memory segments object) ≡ size_of object
in_memory_size segments None found = refl
in_memory_size segments (Some object) found = chosen (list_any (lies_in object) segments) found
  where
    chosen : (within : Bool) → is_some (cond within (Some object) None) ≡ true
        → size_of (cond within (Some object) None) ≡ size_of (Some object)
    chosen true found = refl
    chosen false found = cc

le_self : (n : ℕ) → nat_le n n ≡ true
le_self n = search rules

setting_held : (program : Executable) (setting : Setting) (secret : Secret)
    → is_some (object_of program secret.object.items) ≡ true → set_size setting ≡ secret_size program secret
    → (is_some (object_of program setting.object.items) ≡ true)
    × (nat_le (length setting.bytes.items) (size_of (object_of program setting.object.items)) ≡ true)
setting_held program setting secret found same =
    let name : setting.object.items ≡ secret.object.items = ap (λ (p : List ℕ × ℕ). p.0) same in
    let size : length setting.bytes.items ≡ size_of (object_named program secret.object.items) =
    ap (λ (p : List ℕ × ℕ). p.1) same in
    let whole = in_memory_size program.segments (object_named program secret.object.items) found in
    (rw name found, rw (name, size, whole) (le_self (size_of (object_named program secret.object.items))))

settings_met : (program : Executable) (j k : ℕ) (secrets : List Secret) (settings : List Setting)
    → first_unmet (each_from (secret_needs program) j secrets) ≡ None → SetEachSecret program secrets settings
    → first_unmet (each_from (setting_needs program) k settings) ≡ None
settings_met program j k [] [] met each = refl
settings_met program j k [] (setting ∷ settings) met each = cc
settings_met program j k (secret ∷ secrets) [] met each = cc
settings_met program j k (secret ∷ secrets) (setting ∷ settings) met each =
    let same : set_size setting ≡ secret_size program secret = cc in
    let others : SetEachSecret program secrets settings = cc in
    let now = split (is_some (object_of program secret.object.items)) _ _ met in
    let held = setting_held program setting secret now.0 same in
    rw (held.0, held.1) (settings_met program (j + 1) (k + 1) secrets settings now.1 others)

-- a request is met with each secret set
pub met_besides : (program : Executable) (asked besides : Asked) (more : List Setting)
    → SetsBesides asked more besides → SetEachSecret program asked.secrets.items more
    → first_unmet (needs program asked) ≡ None → first_unmet (needs program besides) ≡ None
unfolding needs
met_besides program asked besides more sets each met =
    let f = function_needs program asked.function.items in
    let a = each_from (argument_needs program) 0 asked.arguments.items in
    let s = each_from (secret_needs program) 0 asked.secrets.items in
    let t = each_from (setting_needs program) 0 asked.settings.items in
    let t' = each_from (setting_needs program) 0 (asked.settings.items ++ more) in
    let k = stack_needs program asked in
    let front = met_front (f ++ a ++ s ++ t) k met in
    let secrets = met_behind (f ++ a) s (met_front (f ++ a ++ s) t front) in
    let settings = each_met (setting_needs program) 0 asked.settings.items more (met_behind (f ++ a ++ s) t front)
    (λ j. settings_met program 0 j asked.secrets.items more secrets each) in
    let all : first_unmet (f ++ a ++ s ++ t' ++ k) ≡ None =
    held_before (f ++ a ++ s ++ t') k (held_before (f ++ a ++ s) t' (met_front (f ++ a ++ s) t front) ∙ settings)
    ∙ met_behind (f ++ a ++ s ++ t) k met in
    rw (sets.function, sets.arguments, sets.secrets, sets.settings, sets.stack) all

-- Requests that are set so one after another.

pub sets_nothing : (asked : Asked) → SetsBesides asked [] asked
sets_nothing asked = record {
  function = refl;
  arguments = refl;
  secrets = refl;
  settings = sym (append-nil asked.settings.items);
  stack = refl;
}

pub sets_after : {asked same besides : Asked} {more : List Setting} → SetsBesides asked [] same
    → SetsBesides same more besides → SetsBesides asked more besides
sets_after {asked} {more = more} before sets = record {
  function = sets.function ∙ before.function;
  arguments = sets.arguments ∙ before.arguments;
  secrets = sets.secrets ∙ before.secrets;
  settings = sets.settings ∙ ap (λ items. items ++ more) (before.settings ∙ append-nil asked.settings.items);
  stack = sets.stack ∙ before.stack;
}

-- they begin alike
module _ (program : Executable) {asked one other : Asked} {more : List Setting} (sets : SetsBesides asked more one)
    (also : SetsBesides asked more other) where
  pub same_program : (profile : Profile) → machine_program program one profile ≡ machine_program program other profile
  same_program profile =
      rw (
        sets.arguments,
        sets.secrets,
        sets.settings,
        sets.stack,
        also.arguments,
        also.secrets,
        also.settings,
        also.stack,
      )

  pub same_start : state_at_start program one ≡ state_at_start program other
  same_start =
      rw (
        sets.function,
        sets.arguments,
        sets.secrets,
        sets.settings,
        sets.stack,
        also.function,
        also.arguments,
        also.secrets,
        also.settings,
        also.stack,
      )

-- a request that is as another is met where that is
pub met_same : (program : Executable) (asked same : Asked) → SetsBesides asked [] same
    → first_unmet (needs program asked) ≡ None → first_unmet (needs program same) ≡ None
unfolding needs
met_same program asked same sets met =
    rw (sets.function, sets.arguments, sets.secrets, sets.settings, append-nil, sets.stack) met
