mod AreaOutputs
mod Room
mod SmallRegion
mod SmallImage
mod BadRows
