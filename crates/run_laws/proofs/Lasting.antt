-- A client's own connection number never falls, along each run.
use Rattle.std.proofs.Common.{◌≡◌, ◌≤◌, ℕ, List, ◌++◌, false, Option, None, Some, refl, sym, ap, ◌∙◌, subst, IfSome, arith, ◌⊎◌, inl, inr}
use Rattle.plain_types.specs.declared.history.Event.{Event}
use Rattle.plain_types.specs.declared.message.ToClient.{ToClient}
use Rattle.plain_types.specs.declared.script.Script.{Script}
use Rattle.step_table.specs.Row.{Row}
use Rattle.step_table.specs.ClientState.{Client}
use Rattle.step_table.specs.ClientLines.{on_op, on_flush}
use Rattle.step_table.specs.ClientTakes.{on_told, on_stored}
use Rattle.step_table.specs.World.{World, client, after}
use Rattle.run_laws.specs.Moments.{steps_of, world_after}
use Rattle.run_laws.specs.Links.{View, EachClient, Offer, mine}
use Rattle.run_laws.proofs.Growing.{world_append}
use Rattle.run_laws.proofs.Clients.{Renews, Keeps, Begins, Acts, ActsNow, op_acts, flush_acts, store_hidden}
use Rattle.run_laws.proofs.Told.{ToldRow, IsAnswer, told_row}
use Rattle.run_laws.proofs.Linked.{OpenLinked, linked, links_hold, if_row}
use Rattle.run_laws.proofs.Views.{Client's, run_keeps}
use Rattle.run_laws.proofs.ViewActs.{KeptViews, AnyOf, all_fit, rows_of_acts, both, given}

renew_conn : (c : Client) (r : Row Client) → Renews c r → c.conn ≤ r.state.conn
renew_conn c r renew = let more = ap (λ (o : Offer). o.conn) renew.state in omega (arith, more)

same_conn : (c : Client) (r : Row Client) → r.state.conn ≡ c.conn → c.conn ≤ r.state.conn
same_conn c r same = omega (arith, same)

acts_conn : (c : Client) (r : Row Client) → Acts c r → c.conn ≤ r.state.conn
acts_conn c r (inl begin) = same_conn c r begin.1.conn
acts_conn c r (inr (inl keep)) = same_conn c r keep.conn
acts_conn c r (inr (inr renew)) = renew_conn c r renew

told_conn : (c : Client) (m : ToClient) (r : Row Client) → ToldRow c m r → c.conn ≤ r.state.conn
told_conn c m r (inl here) = by_row here.1
  where
    by_row : (Begins c r × IsAnswer c m) ⊎ Keeps c r → c.conn ≤ r.state.conn
    by_row (inl begin) = same_conn c r begin.0.conn
    by_row (inr keep) = same_conn c r keep.conn
told_conn c m r (inr (inl renew)) = renew_conn c r renew.1
told_conn c m r (inr (inr (inl hail))) = same_conn c r hail.1.conn
told_conn c m r (inr (inr (inr skip))) = same_conn c r (ap (λ (o : Offer). o.conn) skip.1.state)

-- the client of this number has no lower connection number
abbrev Least : ℕ → ℕ → View
Least x least n c up down s = n ≡ x → least ≤ c.conn

abbrev Lasts : ℕ → ℕ → View
Lasts x least n c up down s = OpenLinked n c up down s × Least x least n c up down s

higher : (x least n : ℕ) (c : Client) (r : Row Client) → c.conn ≤ r.state.conn → (n ≡ x → least ≤ c.conn) → n ≡ x → least ≤ r.state.conn
higher x least n c r more was is = let low = was is in omega (arith, low, more)

lasts : (x least : ℕ) → KeptViews AnyOf (Lasts x least) (Least x least)
lasts x least = record {
  op = λ n c up down s all. if_row (on_op c) (ActsNow c) (Client's (Least x least) n up down s) (λ r does. higher x least n c r (acts_conn c r does.1) all.1) (op_acts c c.lines all.0.0);
  flush = λ n c up down s all. if_row (on_flush c) (λ r. (c.frozen ≡ false) × Keeps c r) (Client's (Least x least) n up down s) (λ r does. higher x least n c r (same_conn c r does.1.conn) all.1) (flush_acts c);
  told = λ n c up m down s all. higher x least n c (on_told c m) (told_conn c m (on_told c m) (told_row c m all.0.0)) all.1;
  stored = λ n c m up down s all. higher x least n c (on_stored c m) (same_conn c (on_stored c m) (ap (λ (o : Offer). o.conn) (store_hidden c m).state)) all.1;
  one = λ n c up down s a fit all. all.1;
  pops = λ n c m up down s all. all.1;
  accepts = λ n c conn said flushes asked up down s all. all.1;
  accepts_other = λ n y c conn asked up down s other all. all.1;
  asks = λ n c conn tid asked up down s is all. all.1;
  asks_other = λ n y c tid asked up down s other all. all.1;
  hands = λ n c up down s all. all.1;
  durable = λ n c up down s all. all.1;
  survives = λ n c up down s k fits all. all.1;
}

-- from one moment to a later one
pub lasting_law : (script : Script) (history later : List Event) (n : ℕ) (c d : Client) → client (world_after script history).clients n ≡ Some c → client (world_after script (history ++ later)).clients n ≡ Some d → c.conn ≤ d.conn
lasting_law script history later n c d before now =
    least_of (client then.clients n) (subst (λ (w : World). client w.clients n ≡ Some d) (world_append script history later) now) (each n) refl
  where
    was : World
    was = world_after script history

    then : World
    then = after (world_after script history) (steps_of later)

    first : EachClient (Lasts n c.conn) (world_after script history)
    first m = of_client (client (world_after script history).clients m) refl (links_hold script (steps_of history) m)
      where
        of_client : (o : Option Client) → client (world_after script history).clients m ≡ o → IfSome o (λ x. OpenLinked m x (mine m (world_after script history).up) (mine m (world_after script history).down) (world_after script history).server)
            → IfSome o (λ x. Lasts n c.conn m x (mine m (world_after script history).up) (mine m (world_after script history).down) (world_after script history).server)
        of_client None is link = tt
        of_client (Some x) is link = (link, λ same. least same)
          where
            found : m ≡ n → Some c ≡ Some x
            found same = sym before ∙ subst (λ (y : ℕ). client (world_after script history).clients y ≡ Some x) same is

            least : m ≡ n → c.conn ≤ x.conn
            least same = let e : c ≡ x = some_same (found same) in let conn = ap (λ (y : Client). y.conn) e in omega (arith, conn)
              where
                some_same : Some c ≡ Some x → c ≡ x
                some_same is = cc

    each : EachClient (Lasts n c.conn) (after (world_after script history) (steps_of later))
    each = run_keeps (Lasts n c.conn) (rows_of_acts (Lasts n c.conn) (both (given (λ m x up down s all. all.0) (λ m x s a fit. fit) linked) (lasts n c.conn)) (all_fit (Lasts n c.conn))) (world_after script history) (steps_of later) first

    least_of : (o : Option Client) → o ≡ Some d → IfSome o (λ x. Lasts n c.conn n x (mine n (after (world_after script history) (steps_of later)).up) (mine n (after (world_after script history) (steps_of later)).down) (after (world_after script history) (steps_of later)).server) → n ≡ n → c.conn ≤ d.conn
    least_of None is all same = cc
    least_of (Some x) is all same = let e : x ≡ d = cc in subst (λ (y : Client). c.conn ≤ y.conn) e (all.1 same)
