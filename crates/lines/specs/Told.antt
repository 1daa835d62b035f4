-- What is printed of a kind and of a problem.
use Rattle.std.specs.Prelude.{List, [], ℕ, codes}
use Rattle.lines.specs.declared.kinds.Kind.{Kind}
use Rattle.lines.specs.declared.kinds.Kind.TheVariants.{Wrote, Loaded, Create, Allocate, Read, Show, Write, Root, Sink, Analyse, Collect, Save, Load, Other}
use Rattle.lines.specs.declared.kinds.Problem.{Problem}
use Rattle.lines.specs.declared.kinds.Problem.TheVariants as problem

-- the name of each kind, by which a line is read as that kind; no line has another kind, and that has none
abbrev pub name : Kind → List ℕ
name Wrote = codes "wrote"
name Loaded = codes "loaded"
name Create = codes "create"
name Allocate = codes "allocate"
name Read = codes "read"
name Show = codes "show"
name Write = codes "write"
name Root = codes "root"
name Sink = codes "sink"
name Analyse = codes "analyse"
name Collect = codes "collect"
name Save = codes "save"
name Load = codes "load"
name (Other k) = []

-- what is said of each problem; nothing of another number
abbrev pub told : Problem → List ℕ
told problem.NoCall = codes "expected the name of a call"
told problem.NoNumber = codes "expected a number"
told problem.LargeNumber = codes "expected a number below 4294967296"
told problem.NoEnd = codes "expected the end of the line"
told problem.NoWay = codes "expected plain or clusters"
told problem.NoName = codes "expected a name"
told problem.NoCreate = codes "expected create, which is the first call of a list"
told problem.SecondCreate = codes "a second create, and a list has one"
told problem.NeverCreated = codes "expected create, and the list has no call"
told problem.TooLong = codes "the line is longer than 4096 bytes"
told problem.Unreadable = codes "the list could not be read"
told (problem.Other k) = []
