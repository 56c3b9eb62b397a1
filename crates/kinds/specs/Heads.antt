-- The groups of vertices that the head of a record or a net names, which has a kind and its degrees.
use Rattle.std.specs.Prelude.{List}
use Rattle.polar.specs.Groups.{Group}
use Rattle.kinds.specs.Kinds.{groups_of}
use Rattle.kinds.specs.declared.Head.{Head}

abbrev pub head_groups : Head → List Group
head_groups head = groups_of head.kind head.degree head.second
