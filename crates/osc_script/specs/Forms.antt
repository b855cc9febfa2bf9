-- How a line should be, by its first word: what is said of one that means nothing.
use Rattle.std.specs.Prelude.{ℕ, List, codes, if◌then◌else◌}
use Rattle.std.specs.Str.{bytes_eq}

abbrev pub form_of : List ℕ → List ℕ
form_of word =
    if bytes_eq word (codes "put") then codes "put PATH FORMAT BYTES, before the first event, once for a path: FORMAT a number or none, BYTES at most 512 as ff+61*12 or -"
    else if bytes_eq word (codes "open") then codes "open PATH, before the first event: PATH as /a/b"
    else if bytes_eq word (codes "revoked") then codes "revoked PATH, before the first event, once: PATH as /revoked, of at most 4 segments"
    else if bytes_eq word (codes "grant") then codes "grant CLIENT SCOPE [nbf=N] [exp=N] [alg=30], before the first event, once for a client: SCOPE as /log:GET+POST,/t:GET, with GET, POST, PUT, DELETE and SUB"
    else if bytes_eq word (codes "proxy") then codes "proxy PROXY, before the first event: PROXY p1 to p9"
    else if bytes_eq word (codes "via") then codes "via CLIENT PROXY, before the first event, once for a client, after its grant"
    else if bytes_eq word (codes "at") then codes "at MS: a number that is not below the last one"
    else if bytes_eq word (codes "draw") then codes "draw HEX16: 16 hexadecimal digits"
    else if bytes_eq word (codes "drop") then codes "drop K: a number"
    else if bytes_eq word (codes "skip") then codes "skip CLIENT N: a client that has a grant, and a number up to 1099511627775"
    else if bytes_eq word (codes "exchange") then codes "exchange CLIENT: a client that has a grant, c1 to c9"
    else if bytes_eq word (codes "ask") then codes "ask CLIENT METHOD PATH BYTES: a client that has a grant, GET, POST, PUT or DELETE, a path as /a/b, and bytes as ff+61*12 or -"
    else if bytes_eq word (codes "tick") then codes "tick NODE: s, a client that has a grant, or a proxy that a line above makes"
    else if bytes_eq word (codes "restart") then codes "restart NODE: s, a client that has a grant, or a proxy that a line above makes"
    else if bytes_eq word (codes "deliver") then codes "deliver K: a number"
    else if bytes_eq word (codes "alter") then codes "alter K OFFSET HEX ..: numbers, and two hexadecimal digits after each offset"
    else if bytes_eq word (codes "graft") then codes "graft J K: two numbers"
    else if bytes_eq word (codes "inject") then codes "inject FROM TO BYTES: two nodes, each s, x, a client that has a grant or a proxy that a line above makes, and bytes as ff+61*12 or -"
    else if bytes_eq word (codes "lie") then codes "lie CLIENT NUMBER METHOD PATH BYTES: as ask, with a number up to 1099511627775"
    else if bytes_eq word (codes "quiet") then codes "quiet, alone"
    else codes "a line of put, open, revoked, grant, proxy, via, at, draw, drop, skip, exchange, ask, tick, restart, deliver, alter, graft, inject, lie or quiet, with one space between words"
