use Rattle.term_changes.proofs.FollowLemmas.{follows_itself, follows_on, followers_can_stand, same_root_follows, trees_of_children, followers_are_the_change, tree_over_children}
use Rattle.term_changes.proofs.laws.followers.Goals as goal

pub returns-clause-itself : goal.returns-clause-itself
returns-clause-itself c = follows_itself

pub returns-clause-on : goal.returns-clause-on
returns-clause-on c = follows_on

pub returns-clause-stand : goal.returns-clause-stand
returns-clause-stand c = followers_can_stand

pub returns-clause-root : goal.returns-clause-root
returns-clause-root c = same_root_follows

pub returns-clause-trees : goal.returns-clause-trees
returns-clause-trees c = trees_of_children

pub returns-clause-change : goal.returns-clause-change
returns-clause-change c = followers_are_the_change

pub returns-clause-over : goal.returns-clause-over
returns-clause-over c = tree_over_children
