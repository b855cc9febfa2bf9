use Rattle.std.proofs.Common.{◌≡◌, ◌++◌, take}
use Rattle.std.specs.Vec.{vec_capacity}
use Rattle.osc_authz.proofs.agreed_post.PostRoom.before.Given as goal

-- as many as there is room for, of the post and the older ones so far
abbrev pub invariant-older : goal.invariant-older
invariant-older l = record {
  so_far : l.posts.items ≡ take l.most (l.initial.posts.items ++ l.yielded);
  capacity : vec_capacity l.posts ≡ vec_capacity l.initial.posts;
}
