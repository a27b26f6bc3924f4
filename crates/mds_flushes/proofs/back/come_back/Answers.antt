use Rattle.std.proofs.Common.{ℕ, ◌≤◌, List, ap, sym, subst, ◌∙◌}
use Rattle.std.specs.List.{list_all}
use Rattle.plain_types.specs.declared.message.Claim.{Claim}
use Rattle.plain_types.specs.declared.message.FlushMsg.{FlushMsg}
use Rattle.step_table.specs.Acts.{LetAllGo, act, acts, each}
use Rattle.step_table.specs.Flushes.{connected, take_brought, take_claim}
use Rattle.step_table.specs.Messages.{flush_fits}
use Rattle.step_table.specs.ServerState.{Server, welcome}
use Rattle.mds_state.specs.Stands.{StandsFor}
use Rattle.mds_flushes.specs.Takes.{is_known}
use Rattle.mds_flushes.proofs.Later.{acts_more, all_later, both_later, claims_later, flushes_later, newer_later}
use Rattle.mds_flushes.proofs.Taken.{connects, stands_by}
use Rattle.mds_flushes.proofs.back.come_back.Goals as goal

-- the state after the claims
abbrev claimed : Server → ℕ → List Claim → Server
claimed s client claims = acts (act s (LetAllGo client)) (each (take_claim client) (act s (LetAllGo client)) claims)

pub take_all-requires : goal.take_all-requires
take_all-requires c =
    let is = c.requires.may in
    let so = connects is.state c.args.client c.args.conn c.args.claims.now c.args.flushes.now is.asked is.may in
    let t = claimed is.state c.args.client c.args.claims.now in
    record {
      from_one = c.requires.from_one;
      upto = subst (λ (n : ℕ). c.args.client ≤ n) (sym c.in_ok-come_back.ensures.clients) c.requires.upto;
      known = record {
        taken = is.taken;
        state = t;
        stands = c.in_ok-come_back.ensures.table is.state is.taken is.stands so.of_claims;
        known =
            ap (list_all (is_known t)) c.as_slice.ensures
            ∙ all_later is.state t (claims_later c.args.client c.args.claims.now is.state) c.args.flushes.now so.of_flushes;
      };
      fit = ap (list_all flush_fits) c.as_slice.ensures ∙ c.requires.fit;
    }

pub welcome-requires : goal.welcome-requires
welcome-requires c =
    let is = c.requires.may in
    let so = connects is.state c.args.client c.args.conn c.args.claims.now c.args.flushes.now is.asked is.may in
    let t = claimed is.state c.args.client c.args.claims.now in
    let flushes = c.as_slice.result.now in
    let u = acts t (each (take_brought c.args.client) t flushes) in
    let known =
    ap (list_all (is_known t)) c.as_slice.ensures
    ∙ all_later is.state t (claims_later c.args.client c.args.claims.now is.state) c.args.flushes.now so.of_flushes in
    let later = both_later is.state t u (claims_later c.args.client c.args.claims.now is.state) (flushes_later c.args.client flushes t) in
    record {
      from_one = c.requires.from_one;
      upto = subst (λ (n : ℕ). c.args.client ≤ n) (sym (c.connected.ensures.clients ∙ c.in_ok-take_all.ensures.clients ∙ c.in_ok-come_back.ensures.clients)) c.requires.upto;
      state = record {
        taken = is.taken;
        state = connected u c.args.client c.args.conn;
        stands =
            c.connected.ensures.table u is.taken
            (c.in_ok-take_all.ensures.table t is.taken (c.in_ok-come_back.ensures.table is.state is.taken is.stands so.of_claims) known)
            (newer_later is.state u c.args.client c.args.conn later so.newer);
      };
    }

pub returns-clause-table : goal.returns-clause-table
returns-clause-table c = λ s asked stands may.
    let client = c.args.client in
    let so = connects s client c.args.conn c.args.claims.now c.args.flushes.now asked may in
    let t = claimed s client c.args.claims.now in
    let flushes = c.as_slice.result.now in
    let u = acts t (each (take_brought client) t flushes) in
    let known =
    ap (list_all (is_known t)) c.as_slice.ensures
    ∙ all_later s t (claims_later client c.args.claims.now s) c.args.flushes.now so.of_flushes in
    let later = both_later s t u (claims_later client c.args.claims.now s) (flushes_later client flushes t) in
    let all =
    ap (λ (l : List FlushMsg). acts t (each (take_brought client) t l)) c.as_slice.ensures
    ∙ sym (acts_more (act s (LetAllGo client)) (each (take_claim client) (act s (LetAllGo client)) c.args.claims.now) (each (take_brought client) t c.args.flushes.now)) in
    stands_by c.welcome.new.self s.hand _
    (subst (λ (v : Server). StandsFor c.welcome.new.self s.hand (welcome (connected v client c.args.conn) client c.args.conn)) all
    (c.in_ok-welcome.ensures.table _ s.hand
    (c.connected.ensures.table u s.hand
    (c.in_ok-take_all.ensures.table t s.hand (c.in_ok-come_back.ensures.table s s.hand stands so.of_claims) known)
    (newer_later s u client c.args.conn later so.newer))))
