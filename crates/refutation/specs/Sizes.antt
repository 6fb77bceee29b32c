-- How much there is to read of a tree.
use Rattle.std.specs.Prelude.{ℕ, ◌+◌, length}
use Rattle.refutation.specs.declared.trees.Tree.{Tree, Close, Force', Split'}

-- how many forced steps, splits and leaves a tree has
abbrev pub size_of : Tree → ℕ
size_of (Close leaf) = 1
size_of (Force' steps p rest) = length steps + size_of rest
size_of (Split' choice p first q second) = size_of first + size_of second + 1
