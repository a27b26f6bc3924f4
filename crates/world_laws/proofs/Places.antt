-- Of a client's request one place is left at most.
use Rattle.std.proofs.Common.{◌≡◌, ◌≤◌, ℕ, ◌+◌, List, [], ◌∷◌, ◌++◌, Bool, true, false, cond, Option, Some, refl, ap, subst, IfSome, arith}
use Rattle.std.specs.Prelude.{◌||◌}
use Rattle.std.specs.List.{list_any}
use Rattle.plain_types.specs.declared.message.ToServer.{ToServer}
use Rattle.plain_types.specs.declared.message.ToServer.TheVariants.{Ask}
use Rattle.plain_types.specs.declared.request.Request.{Request}
use Rattle.step_table.specs.Acts.{of_client}
use Rattle.step_table.specs.ClientState.{Client}
use Rattle.step_table.specs.ServerState.{Asked}
use Rattle.step_table.specs.World.{World, client}
use Rattle.run_laws.specs.Links.{EachClient, mine}
use Rattle.run_laws.specs.Requests.{Requested, count, asks}

count_append : (n : ℕ) (some more : List Asked) → count n (some ++ more) ≡ count n some + count n more
count_append n [] more = omega arith
count_append n (a ∷ some) more = by_test (of_client n a) (count_append n some more)
  where
    by_test : (b : Bool) → count n (some ++ more) ≡ count n some + count n more → cond b (count n (some ++ more) + 1) (count n (some ++ more)) ≡ cond b (count n some + 1) (count n some) + count n more
    by_test true is = omega (arith, is)
    by_test false is = is

-- what is said of each client is said of this one
of_it : (n : ℕ) (w : World) (c : Client) → EachClient Requested w → client w.clients n ≡ Some c → Requested n c (mine n w.up) (mine n w.down) w.server
of_it n w c each here = subst (λ (o : Option Client). IfSome o (λ (c : Client). Requested n c (mine n w.up) (mine n w.down) w.server)) here (each n)

pub once : (n : ℕ) (w : World) (c : Client) → EachClient Requested w → client w.clients n ≡ Some c → count n (w.server.held ++ w.server.deferred) ≤ 1
once n w c each here =
    let one = (of_it n w c each here).one in
    omega (arith, one, count_append n w.server.held w.server.deferred)

none_of : (n : ℕ) (list : List Asked) → count n list ≡ 0 → list_any (of_client n) list ≡ false
none_of n [] is = refl
none_of n (a ∷ list) is = by_test (of_client n a) is (none_of n list)
  where
    by_test : (b : Bool) → cond b (count n list + 1) (count n list) ≡ 0 → (count n list ≡ 0 → list_any (of_client n) list ≡ false) → (b || list_any (of_client n) list) ≡ false
    by_test true is go = absurd (let some : 1 ≤ 0 = omega (arith, is) in omega (arith, some))
    by_test false is go = go is

pub none : (n : ℕ) (w : World) (c : Client) → EachClient Requested w → client w.clients n ≡ Some c → (conn tid : ℕ) (asked : Request) (rest : List ToServer) → mine n w.up ≡ Ask conn tid asked ∷ rest → list_any (of_client n) (w.server.held ++ w.server.deferred) ≡ false
none n w c each here conn tid asked rest next =
    let one = (of_it n w c each here).one in
    none_of n (w.server.held ++ w.server.deferred) (omega (arith, one, count_append n w.server.held w.server.deferred, ap asks next))
