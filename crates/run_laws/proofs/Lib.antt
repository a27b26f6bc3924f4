pub mod Acts
mod Apart
mod Asked
mod Awaiting
mod Bounding
mod Carried
mod Channels
mod Clean
mod Clients
mod Comes
mod Counted
mod Covers
mod Covering
mod Delivered
mod Determined
mod Effects
mod Entered
mod Exists
mod Files
mod Fitting
mod Freed
mod Gives
mod Giving
mod Granted
mod Granting
pub mod Growing
mod Hearing
mod Held
mod Holders
pub mod Holds
mod Kept
pub mod Knowing
pub mod Known
mod Lasting
mod Leaving
mod Lending
mod Link
pub mod Linked
mod Mail
mod Makes
pub mod Moves
mod Numbering
mod Once
mod Operations
mod Outgoing
mod Pairs
mod Parting
mod Plain
mod Purging
mod Recalling
mod Releasing
mod Requested
mod Returning
pub mod Rises
mod Rooted
mod Rounds
pub mod Ruled
mod Seats
mod Sending
mod Serving
mod Sharers
mod Shares
mod Sharing
mod Stamped
mod Strangers
mod Taking
mod Tenured
mod Told
mod Turning
mod Turns
mod ViewActs
pub mod Views
mod Waiting
mod When
mod Whose
mod Buffered
mod Making
mod Quiet
mod Answering
mod Belonging
mod Opening
mod Summed
mod Telling
