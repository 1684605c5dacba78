-- The text that program `phases` prints.
--     Contract what the entry writes, by the rules: believe it; nothing else here has to be believed
--     Input    the parts of what is read, for module `input`
--     Number   numbers as text, for module `number`
--     Line     the lines of a run list, for module `line`
--     Report   heading, lines and refusal, for module `report`
--     Laws     the whole text is the rules' (proved)
pub mod Contract
pub mod Input
pub mod Number
pub mod Line
pub mod Report
pub mod Laws
