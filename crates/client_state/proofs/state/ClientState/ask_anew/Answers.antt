use Rattle.client_state.proofs.Rows.{asked_anew}
use Rattle.client_state.proofs.state.ClientState.ask_anew.Goals as goal

pub returns : goal.returns
returns c = asked_anew c.led_by.result _ c.args.self.now _ c.self.view_is c.args.number c.args.line c.args.request c.args.ino c.in_ok-asked.asked
    c.in_ok-asked.ensures c.led_by.ensures
