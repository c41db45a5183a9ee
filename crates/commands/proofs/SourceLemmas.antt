-- Libraries that are read one after another, and where what is refused of them stands.
use Rattle.std.proofs.Common.{◌≡◌, ℕ, ◌+◌, ◌-◌, ◌<◌, ◌≤◌, true, false, Bool, List, [], ◌∷◌, ◌++◌, length, map, take}
use Rattle.std.proofs.Common.{drop, get_or, Bor, Option, Some, None, append_assoc, refl, sym, ap, ◌∙◌, subst, arith}
use Rattle.std.specs.Str.{IsUtf8}
use Rattle.std.proofs.lemmas.List.{length-append, length-take, map-append, map_more, take-append-drop}
use Rattle.std.proofs.lemmas.List.{take_all}
use Rattle.std.proofs.lemmas.List.Elements.{All-nil, All-cons, All-append}
use Rattle.commands.specs.Below.{IsRefusalOf, IsText, numbered_of, Profile, Refusal, source_limit}
use Rattle.commands.specs.Contents.{Contents}
use Rattle.commands.specs.Judged.{IsExplainedIn, IsRefusedIn, IsRefusedText, IsToldBy, plainly, refused_text}
use Rattle.commands.specs.Judged.{TellsIn, with_lines, without_memory}
use Rattle.commands.specs.Sources.{AreHeld, by_file, by_library, IsAtLine, IsReadFrom, IsToldIn, joined, LibraryText}
use Rattle.commands.specs.Sources.{lines_in, NoSources, NoTextBelow, numbered, standing}
use Rattle.commands.specs.Unread.{IsOutOfMemory}
use Rattle.commands.specs.declared.fault.Fault.{Fault}
use Rattle.explanations.specs.explained_refusals.Explained.{Explains}
use Rattle.image_reports.specs.declared.source_places.Library.{Library}

-- libraries that were read: the text that they are together, and how many lines each has
pub record AreRead (files : Contents) (paths : List (List ℕ)) (text : List ℕ) (by_lines : List (List ℕ × ℕ)) :
    Type 0 where
  pub libraries : List LibraryText
  pub named : map (λ one. one.0) libraries ≡ paths
  pub held : AreHeld files libraries
  pub is : text ≡ joined libraries []
  pub lines : by_lines ≡ numbered libraries

pub none_read : (files : Contents) (text : List ℕ) (read : List Library) → text ≡ [] → read ≡ []
    → AreRead files [] text (numbered_of read)
none_read files text read none empty =
    record { libraries = []; named = refl; held = All-nil _; is = none; lines = ap numbered_of empty }

joined_before : (xs ys : List LibraryText) (text : List ℕ) → joined (xs ++ ys) text ≡ joined xs (joined ys text)
joined_before [] ys text = refl
joined_before (x ∷ xs) ys text = ap (λ (t : List ℕ). x.1 ++ (10 ∷ t)) (joined_before xs ys text)

front_of : (xs : List LibraryText) (text : List ℕ) → joined xs text ≡ joined xs [] ++ text
front_of [] text = refl
front_of (x ∷ xs) text =
    ap (λ (t : List ℕ). x.1 ++ (10 ∷ t)) (front_of xs text) ∙ sym (append_assoc x.1 (10 ∷ joined xs []) text)

-- one more
pub one_more_read : {files : Contents} {paths paths' : List (List ℕ)} {text text' : List ℕ}
    {by_lines by_lines' : List (List ℕ × ℕ)} (path bytes : List ℕ) → AreRead files paths text by_lines
    → files path ≡ Some bytes → IsUtf8 bytes → paths' ≡ paths ++ path ∷ [] → text' ≡ (text ++ bytes) ++ 10 ∷ []
    → by_lines' ≡ by_lines ++ (path, lines_in bytes) ∷ [] → AreRead files paths' text' by_lines'
one_more_read {files} {text = text} path bytes read held utf8 on put more =
    let libraries : List LibraryText = read.libraries in
    let one : List LibraryText = (path, bytes) ∷ [] in
    let Held : LibraryText → Type 0 = λ library. (files library.0 ≡ Some library.1) × IsUtf8 library.1 in
    record {
      libraries = libraries ++ one;
      named =
          map-append (λ (library : LibraryText). library.0) libraries one
          ∙ ap (λ (ps : List (List ℕ)). ps ++ path ∷ []) read.named
          ∙ sym on;
      held = All-append Held libraries one read.held (All-cons Held (path, bytes) [] (held, utf8) (All-nil Held));
      is =
          put
          ∙ append_assoc text bytes (10 ∷ [])
          ∙ ap (λ (t : List ℕ). t ++ (bytes ++ 10 ∷ [])) read.is
          ∙ sym (front_of libraries (joined one []))
          ∙ sym (joined_before libraries one []);
      lines =
          more
          ∙ ap (λ (ls : List (List ℕ × ℕ)). ls ++ (path, lines_in bytes) ∷ []) read.lines
          ∙ sym (map-append (λ (library : LibraryText). (library.0, lines_in library.1)) libraries one);
    }

-- its lines are put behind those of the others
pub lines_more : (read read' : List Library) (library : Library) (bytes text : List ℕ)
    → read' ≡ read ++ library ∷ [] → library.lines ≡ lines_in text → text ≡ bytes
    → numbered_of read' ≡ numbered_of read ++ (library.path.now, lines_in bytes) ∷ []
lines_more read read' library bytes text put counted is =
    ap numbered_of put
    ∙ map-append (λ (l : Library). (l.path.now, l.lines)) read (library ∷ [])
    ∙ ap (λ (n : ℕ). numbered_of read ++ (library.path.now, n) ∷ []) (counted ∙ ap lines_in is)

-- the text stays within the limit
pub grown : (text bytes text' : List ℕ) → text' ≡ (text ++ bytes) ++ 10 ∷ [] → length text ≤ source_limit
    → length bytes < source_limit - length text → length text' ≤ source_limit
grown text bytes text' put within low =
    let size : length text' ≡ length ((text ++ bytes) ++ 10 ∷ []) = ap length put in
    omega (arith, length-append (text ++ bytes) (10 ∷ []), length-append text bytes)

pub grown_last : (text bytes whole : List ℕ) → whole ≡ text ++ bytes → length text ≤ source_limit
    → length bytes < source_limit + 1 - length text → length whole ≤ source_limit
grown_last text bytes whole put within low =
    let size : length whole ≡ length (text ++ bytes) = ap length put in omega (arith, length-append text bytes)

-- and then the file
pub all_read : {files : Contents} {paths all : List (List ℕ)} {text : List ℕ} {by_lines : List (List ℕ × ℕ)}
    (path last whole : List ℕ) → AreRead files paths text by_lines → paths ≡ all → files path ≡ Some last
    → whole ≡ text ++ last → IsText whole → IsReadFrom files all path whole by_lines
all_read path last whole read are held put is_text =
    let libraries = read.libraries in
    let same : whole ≡ joined libraries last = put ∙ ap (λ (t : List ℕ). t ++ last) read.is
    ∙ sym (front_of libraries last) in
    record {
      libraries = libraries;
      last = last;
      holds = record { named = read.named ∙ are; held = read.held; last = held; is_text = subst IsText same is_text };
      is = same;
      lines = read.lines;
    }

-- a library of which no text is had
pub library_refused : {files : Contents} {paths all : List (List ℕ)} {text : List ℕ} {by_lines : List (List ℕ × ℕ)}
    {fault : Fault} (path file : List ℕ) (later : List (List ℕ)) → AreRead files paths text by_lines
    → all ≡ paths ++ path ∷ later
    → NoTextBelow files path (Some path) (source_limit - length text) fault → NoSources files all file fault
library_refused {files} {text = text} {fault = fault} path file later read cut why =
    by_library read.libraries path later (cut ∙ ap (λ (ps : List (List ℕ)). ps ++ path ∷ later) (sym read.named))
    read.held
    (subst (λ (t : List ℕ). NoTextBelow files path (Some path) (source_limit - length t) fault) read.is why)

-- and the file
pub file_refused : {files : Contents} {paths all : List (List ℕ)} {text : List ℕ} {by_lines : List (List ℕ × ℕ)}
    {fault : Fault} (path : List ℕ) → AreRead files paths text by_lines → paths ≡ all
    → NoTextBelow files path None (source_limit + 1 - length text) fault → NoSources files all path fault
file_refused {files} {text = text} {fault = fault} path read are why =
    by_file read.libraries (read.named ∙ are) read.held
    (subst (λ (t : List ℕ). NoTextBelow files path None (source_limit + 1 - length t) fault) read.is why)

-- paths that are read up to one of them, or all
abbrev pub bytes_of_paths : List (Bor (List ℕ)) → List (List ℕ)
bytes_of_paths = map (λ path. path.now)

pub paths_more : (all : List (Bor (List ℕ))) (i : ℕ) (none : Bor (List ℕ)) → i < length all
    → bytes_of_paths (take (i + 1) all) ≡ bytes_of_paths (take i all) ++ (get_or all i none).now ∷ []
paths_more all i none low = map_more (λ (path : Bor (List ℕ)). path.now) all i none low

pub paths_at : (all : List (Bor (List ℕ))) (i : ℕ) (none : Bor (List ℕ)) → i < length all
    → bytes_of_paths all
    ≡ bytes_of_paths (take i all) ++ (get_or all i none).now ∷ bytes_of_paths (drop (i + 1) all)
paths_at all i none low =
    let later : List (List ℕ) = bytes_of_paths (drop (i + 1) all) in
    ap bytes_of_paths (sym (take-append-drop (i + 1) all))
    ∙ map-append (λ (path : Bor (List ℕ)). path.now) (take (i + 1) all) (drop (i + 1) all)
    ∙ ap (λ (front : List (List ℕ)). front ++ later) (paths_more all i none low)
    ∙ append_assoc (bytes_of_paths (take i all)) ((get_or all i none).now ∷ []) later

pub paths_all : (all : List (Bor (List ℕ))) (i : ℕ) → length all ≤ i
    → bytes_of_paths (take i all) ≡ bytes_of_paths all
paths_all all i end = ap bytes_of_paths (take_all i all end)

-- a text that was read is refused, by the text and the libraries as they were lent
pub refused_as_lent : {profile : Profile} {text lent : List ℕ} {libraries lent_libraries : List Library}
    {refusal : Refusal} {explain : Bool} {fault : Fault} → lent ≡ text → lent_libraries ≡ libraries
    → IsRefusalOf profile lent refusal → TellsIn lent (numbered_of lent_libraries) refusal explain fault
    → IsRefusedText explain profile text (numbered_of libraries) fault
refused_as_lent {profile} {lent = lent} {libraries} {refusal = refusal} {explain} {fault} is are refused tells = (
  refusal,
  subst (λ (t : List ℕ). IsRefusalOf profile t refusal) is refused,
  subst (λ (t : List ℕ). TellsIn t (numbered_of libraries) refusal explain fault) is
      (subst (λ (ls : List Library). TellsIn lent (numbered_of ls) refusal explain fault) are tells),
)

-- and as what libraries and a file hold
pub refused_of_sources : {explain : Bool} {profile : Profile} {files : Contents} {paths : List (List ℕ)}
    {path text : List ℕ} {by_lines : List (List ℕ × ℕ)} {fault : Fault}
    (read : IsReadFrom files paths path text by_lines) → IsRefusedText explain profile text by_lines fault
    → IsRefusedText explain profile (joined read.libraries read.last) (numbered read.libraries) fault
refused_of_sources {explain} {profile} {by_lines = by_lines} {fault} read why =
    subst (λ (ls : List (List ℕ × ℕ)). IsRefusedText explain profile (joined read.libraries read.last) ls fault)
    read.lines
    (subst (λ (t : List ℕ). IsRefusedText explain profile t by_lines fault) read.is why)

pub refused_in_sources : {explain : Bool} {profile : Profile} {files : Contents} {paths : List (List ℕ)}
    {path text : List ℕ} {by_lines : List (List ℕ × ℕ)} {fault : Fault}
    → IsReadFrom files paths path text by_lines → IsRefusedText explain profile text by_lines fault
    → IsRefusedIn explain profile files paths path fault
refused_in_sources {explain} {profile} {fault = fault} read why =
    let refused = refused_of_sources {explain = explain} {profile = profile} {fault = fault} read why in
    refused_text refused.0 read.holds refused.1 refused.2

-- a refusal of a joined text, explained or not
pub told_plainly : {text : List ℕ} {by_lines : List (List ℕ × ℕ)} {refusal : Refusal} {explain : Bool} {fault : Fault}
    {library : Option (List ℕ)} (told : Refusal) → explain ≡ false
    → IsAtLine (standing by_lines refusal).1 refusal told → library ≡ (standing by_lines refusal).0
    → IsToldIn library told fault → IsToldBy text by_lines refusal explain fault
told_plainly {text} {by_lines} {refusal} {fault = fault} told plain at there is =
    subst (λ (b : Bool). IsToldBy text by_lines refusal b fault) (sym plain)
    (plainly told at (subst (λ (l : Option (List ℕ)). IsToldIn l told fault) there is))

pub told_with_lines : {text : List ℕ} {by_lines : List (List ℕ × ℕ)} {refusal : Refusal} {explain : Bool}
    {fault : Fault} {library : Option (List ℕ)} (told : Refusal) (lines : List ℕ) → explain ≡ true
    → IsAtLine (standing by_lines refusal).1 refusal told → library ≡ (standing by_lines refusal).0
    → Explains text refusal lines → IsExplainedIn library told lines fault
    → IsToldBy text by_lines refusal explain fault
told_with_lines {text} {by_lines} {refusal} {fault = fault} told lines explained at there explains is =
    subst (λ (b : Bool). IsToldBy text by_lines refusal b fault) (sym explained)
    (with_lines told lines at explains (subst (λ (l : Option (List ℕ)). IsExplainedIn l told lines fault) there is))

pub told_without_memory : {text : List ℕ} {by_lines : List (List ℕ × ℕ)} {refusal : Refusal} {explain : Bool}
    {fault : Fault} → explain ≡ true → IsOutOfMemory fault → TellsIn text by_lines refusal explain fault
told_without_memory {text} {by_lines} {refusal} {fault = fault} explained memory =
    subst (λ (b : Bool). TellsIn text by_lines refusal b fault) (sym explained) (without_memory memory)

-- ---- bytes that were read up to a limit

-- as many as were asked for are no more than a file has
pub no_more_than : (limit : ℕ) (whole bytes : List ℕ) → bytes ≡ take limit whole → limit ≤ length bytes
    → limit ≤ length whole
no_more_than limit whole bytes is many =
    let count : length bytes ≡ length (take limit whole) = ap length is in
    omega (arith, length-take limit whole)
