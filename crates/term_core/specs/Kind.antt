-- Terms from their parts.
use Rattle.std.specs.Prelude.{List}
use Rattle.term_core.specs.Tree.{Tree, integer, branch, application, list, tuple, of_list}
use Rattle.term_core.specs.declared.kind.Kind.{Kind}
use Rattle.term_core.specs.declared.kind.Kind.TheVariants.{Integer, Application, List as AList, Tuple}

-- the term of this kind with these children and annotations; an integer has no children
abbrev pub made_of : Kind → List Tree → List Tree → Tree
made_of (Integer z) us notes = integer z (of_list notes)
made_of (Application name) us notes = branch (application name.now) (of_list us) (of_list notes)
made_of AList us notes = branch list (of_list us) (of_list notes)
made_of Tuple us notes = branch tuple (of_list us) (of_list notes)
