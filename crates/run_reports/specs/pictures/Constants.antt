-- What a page begins with, and its legends.
use Rattle.std.specs.Prelude.{ℕ, List, ◌++◌, codes}

-- up to the title
unfoldable pub front : List ℕ
front =
    codes "<!DOCTYPE html>\n"
    ++ codes "<html lang=\"en\">\n"
    ++ codes "<head>\n"
    ++ codes "<meta charset=\"utf-8\">\n"
    ++ codes "<meta name=\"viewport\" content=\"width=device-width, initial-scale=1\">\n"
    ++ codes "<title>"

-- behind the title, up to what was asked for
unfoldable pub before_asked : List ℕ
before_asked =
    codes "</title>\n"
    ++ codes "<style>\n"
    ++ codes ":root { color-scheme: light dark; --page: #fff; --ink: #1d2125; --area: #eff1f3 }\n"
    ++ codes ":root { --fetch: #8b959f; --load: #2f6fdb; --store: #12876a; --both: #7b52c7 }\n"
    ++ codes ":root { --one: #d81e3a; --other: #f08c00 }\n"
    ++ codes "@media (prefers-color-scheme: dark) {\n"
    ++ codes ":root { --page: #16181b; --ink: #e3e6e9; --area: #23272b }\n"
    ++ codes ":root { --fetch: #78838e; --load: #5b9bff; --store: #2fc296; --both: #a98bf5 }\n"
    ++ codes ":root { --one: #ff4d63; --other: #ffb340 } }\n"
    ++ codes "body { margin: 2rem auto; max-width: 75rem; padding: 0 1rem }\n"
    ++ codes "body { background: var(--page); color: var(--ink); font: 1rem/1.5 system-ui, sans-serif }\n"
    ++ codes "h1 { font-size: 1.5rem; margin: 0 }\n"
    ++ codes "#asked { overflow-wrap: anywhere; white-space: pre-wrap }\n"
    ++ codes "h2 { font-size: 1.1rem; margin: 1.25rem 0 .25rem }\n"
    ++ codes "pre { background: var(--area); padding: .5rem .75rem; overflow: auto }\n"
    ++ codes "#asked, pre, .addresses, .steps { font-family: ui-monospace, monospace }\n"
    ++ codes ".area { display: grid; grid-template-columns: 5rem 1fr; gap: .5rem }\n"
    ++ codes
    ".addresses { display: flex; flex-direction: column; justify-content: space-between; text-align: right }\n"
    ++ codes ".steps { display: flex; justify-content: space-between; margin: .25rem 0 0 5.5rem }\n"
    ++ codes ".addresses, .steps { font-size: .8rem; line-height: 1 }\n"
    ++ codes "svg { width: 100%; height: 18rem; background: var(--area); transform: scaleY(-1) }\n"
    ++ codes "#elsewhere { height: 1rem }\n"
    ++ codes "path { fill: none; stroke-width: 1; shape-rendering: crispEdges }\n"
    ++ codes "path.one, path.other { stroke-width: .5 }\n"
    ++ codes "path.parting { stroke-width: 2px; vector-effect: non-scaling-stroke }\n"
    ++ codes "g path { stroke: none; pointer-events: stroke }\n"
    ++ codes "path.one { transform: translate(0, .25px) }\n"
    ++ codes "path.other { transform: translate(0, -.25px) }\n"
    ++ codes ".fetch { stroke: var(--fetch); background: var(--fetch) }\n"
    ++ codes ".load { stroke: var(--load); background: var(--load) }\n"
    ++ codes ".store { stroke: var(--store); background: var(--store) }\n"
    ++ codes ".both { stroke: var(--both); background: var(--both) }\n"
    ++ codes ".one { stroke: var(--one); background: var(--one) }\n"
    ++ codes ".other { stroke: var(--other); background: var(--other) }\n"
    ++ codes ".parting { stroke: var(--ink); background: var(--ink) }\n"
    ++ codes "ul { list-style: none; padding: 0; display: flex; flex-wrap: wrap; gap: .25rem 1.5rem }\n"
    ++ codes ".key { display: inline-block; width: .9em; height: .9em; margin-right: .4em; vertical-align: -.1em }\n"
    ++ codes "</style>\n"
    ++ codes "</head>\n"
    ++ codes "<body>\n"
    ++ codes "<h1>What an observer sees</h1>\n"
    ++ codes "<p id=\"asked\">"

-- behind that, up to what is said of the runs
unfoldable pub before_said : List ℕ
before_said =
    codes "</p>\n"
    ++ codes "<p>Steps run to the right, addresses upwards.\n"
    ++ codes "A cell shows all that its steps do at its addresses, and says it under the pointer.</p>\n"
    ++ codes "<pre id=\"said\">\n"

-- the legend of accesses
unfoldable pub legend : List ℕ
legend =
    codes "<li><span class=\"key fetch\"></span>an instruction is executed</li>\n"
    ++ codes "<li><span class=\"key load\"></span>a load</li>\n"
    ++ codes "<li><span class=\"key store\"></span>a store</li>\n"
    ++ codes "<li><span class=\"key both\"></span>loads and stores</li>\n"

-- the legend of differences
unfoldable pub legend_of_two : List ℕ
legend_of_two =
    codes "<li><span class=\"key one\"></span>in the first run alone (upper half)</li>\n"
    ++ codes "<li><span class=\"key other\"></span>in the second run alone (lower half)</li>\n"
    ++ codes "<li><span class=\"key parting\"></span>the first step in which they part</li>\n"
